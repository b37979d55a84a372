-- A refusal and its number say the same. Assumes nothing.
use Prim.Native.Nat.{ℕ, ◌<◌}
use mathlib.Core.Path.{◌≡◌, refl, sym, ap, ◌∙◌}
use native.Mathlib.Omega.{arith}
use Rattle.std.specs.declared.result.Result.{Result}
use Rattle.std.specs.declared.result.Result.TheVariants.{Ok, Err}
use Rattle.refusals.specs.declared.Refusal.{Refusal}
use Rattle.refusals.specs.declared.Refusal.TheVariants as R
use Rattle.refusals.specs.Refusals.{number_of, refusal_of, outcome_number, answered, judged, IsJudged}

pub refusal_of_number : (e : Refusal) → refusal_of (number_of e) ≡ e
refusal_of_number R.Type = refl
refusal_of_number R.Number = refl
refusal_of_number R.Conductivity = refl
refusal_of_number R.Mhz = refl
refusal_of_number R.Bays = refl
refusal_of_number R.Argument = refl
refusal_of_number R.Length = refl
refusal_of_number R.Malformed = refl
refusal_of_number R.Height = refl
refusal_of_number R.Count = refl
refusal_of_number R.Unsettled = refl

pub number_positive : (e : Refusal) → 0 < number_of e
number_positive R.Type = omega (arith)
number_positive R.Number = omega (arith)
number_positive R.Conductivity = omega (arith)
number_positive R.Mhz = omega (arith)
number_positive R.Bays = omega (arith)
number_positive R.Argument = omega (arith)
number_positive R.Length = omega (arith)
number_positive R.Malformed = omega (arith)
number_positive R.Height = omega (arith)
number_positive R.Count = omega (arith)
number_positive R.Unsettled = omega (arith)

-- what an answer of a refusal's number is
pub answered_number : {A : Type 0} (values : A) (e : Refusal) → answered (number_of e) values ≡ Err e
answered_number values R.Type = refl
answered_number values R.Number = refl
answered_number values R.Conductivity = refl
answered_number values R.Mhz = refl
answered_number values R.Bays = refl
answered_number values R.Argument = refl
answered_number values R.Length = refl
answered_number values R.Malformed = refl
answered_number values R.Height = refl
answered_number values R.Count = refl
answered_number values R.Unsettled = refl

-- the number alone says which verdict it is
pub judged_number : (r : Result Unit Refusal) → r ≡ judged (outcome_number r)
judged_number (Ok tt) = refl
judged_number (Err e) = sym (answered_number tt e)

pub is_judged : {n : ℕ} (r : Result Unit Refusal) → outcome_number r ≡ n → IsJudged n r
is_judged r h = (judged_number r ∙ ap judged h, h)

module _ {n : ℕ} {r : Result Unit Refusal} (j : IsJudged n r) where
  pub number_is : outcome_number r ≡ n
  number_is = j.1

  -- for a caller with `?`
  pub accepted : {u : Unit {0}} → r ≡ Ok u → n ≡ 0
  accepted e = sym j.1 ∙ ap outcome_number e

  pub refused : {e : Refusal} → r ≡ Err e → n ≡ number_of e
  refused e = sym j.1 ∙ ap outcome_number e

  pub answered_ok : {A : Type 0} {u : Unit {0}} (values : A) → r ≡ Ok u → answered n values ≡ Ok values
  answered_ok values e = rw (accepted e)

  pub answered_err : {A : Type 0} {e : Refusal} (values : A) → r ≡ Err e → answered n values ≡ Err e
  answered_err {e} values h = rw (refused h, answered_number values e)

  -- an answer has the number that it was made with
  pub answered_outcome : {A : Type 0} (values : A) → outcome_number (answered n values) ≡ n
  answered_outcome values = go r refl
    where
      go : (s : Result Unit Refusal) → r ≡ s → outcome_number (answered n values) ≡ n
      go (Ok u) e = ap outcome_number (answered_ok values e) ∙ sym (accepted e)
      go (Err f) e = ap outcome_number (answered_err values e) ∙ sym (refused e)
