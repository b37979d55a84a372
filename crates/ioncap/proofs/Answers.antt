-- A gain call's answer has document 01's number and values: the first refusal's, else the work's. Assumes nothing.
use Prim.Native.Nat.{ℕ}
use mathlib.Core.Path.{◌≡◌, refl}
use mathlib.Core.Logic.{◌↔◌}
use native.Mathlib.Omega.{arith}
use borrow.Author.Tests.{ne_eqb}
use lib.Ieee.{Float}
use Rattle.std.specs.Prelude.{false, eqb, Option, Some, None, Result, Ok, Err, ok_or}
use Rattle.limits.proofs.None.{any_holds, zero_none}
use Rattle.integrals.specs.Settled.{unsettled_number, settled_value}
use Rattle.integrals.specs.declared.settled.Settled.{Settled}
use Rattle.refusals.specs.Refusals.{IsJudged, number_of}
use Rattle.refusals.specs.declared.Refusal.{Refusal}
use Rattle.refusals.specs.declared.Refusal.TheVariants as R
use Rattle.refusals.proofs.Refusals.{accepted, refused, number_positive, refusal_of_number}
use Rattle.gain_core.specs.declared.calls.Answer.{Answer}
use Rattle.gain_core.specs.Core.{refused_at}
use Rattle.ioncap.specs.Gain.{call_tests, call_refusal, call_work, answered, gain_of, gain_number, gain_value, efficiency_value, height_left}
use Rattle.ioncap.specs.Gain.{call_number, call_gain, call_efficiency, call_height}
use Rattle.ioncap.specs.declared.gain.GainCall.{GainCall}

abbrev Means : ℕ → Float → Float → Float → Float → Result Answer Refusal → Type 0
Means number gain efficiency left height r =
    (gain_number r ≡ number) × (gain_value r ≡ gain) × (efficiency_value r ≡ efficiency) × (height_left r height ≡ left)

-- of an accepted call the work's, of a refused one the refusal's
worked : (w : Option (Settled Answer)) (height : Float)
    → let a = settled_value (refused_at height) w in Means (unsettled_number w) a.gain a.efficiency a.height height (answered w)
unfolding unsettled_number settled_value gain_number gain_value efficiency_value height_left
worked (Some call) height = (refl, refl, refl, refl)
worked None height = (refl, refl, refl, refl)

not_zero : (e : Refusal) → eqb (number_of e) 0 ≡ false
not_zero e = ne_eqb (number_of e) 0 (λ z. omega (arith, z, number_positive e))

abbrev Answers : GainCall → Float → Result Answer Refusal → Type 0
Answers call height r =
    (r ≡ gain_of call height) × (gain_number r ≡ call_number call height) × (gain_value r ≡ call_gain call height)
    × (efficiency_value r ≡ call_efficiency call height) × (height_left r height ≡ call_height call height)

module _ (call : GainCall) (height : Float) {verdict : Result (Unit {0}) Refusal} (judged : IsJudged (call_refusal call height) verdict) where
  pub refused_answers : {e : Refusal} (r : Result Answer Refusal) → verdict ≡ Err e → r ≡ Err e → Answers call height r
  unfolding gain_of call_number call_gain call_efficiency call_height gain_number gain_value efficiency_value height_left
  refused_answers {e} r v is = rw (is, refused judged v, not_zero e, refusal_of_number e) (refl, refl, refl, refl, refl)

  pub worked_answers : {u : Unit {0}} (r : Result Answer Refusal) → verdict ≡ Ok u → r ≡ answered (call_work call height) → Answers call height r
  unfolding gain_of call_number call_gain call_efficiency call_height
  worked_answers r v is = let m = worked (call_work call height) height in rw (is, accepted judged v) (refl, m.0, m.1, m.2, m.3)

-- what the work's number becomes: 11 of one that settles not
pub worked_err : (w : Option (Settled Answer)) {e : Refusal} → ok_or w R.Unsettled ≡ Err e → Err e ≡ answered w
worked_err (Some call) h = absurd (cc)
worked_err None {e} h = let i : R.Unsettled ≡ e = cc in rw (← i)

pub worked_ok : (w : Option (Settled Answer)) {work : Settled Answer} → ok_or w R.Unsettled ≡ Ok work → Ok work.value ≡ answered w
worked_ok (Some made) {work} h = let e : made ≡ work = cc in rw e
worked_ok None h = absurd (cc)

-- 0 exactly where none of the listed conditions holds
pub zero_none_of_call : (call : GainCall) (height : Float) → (call_refusal call height ≡ 0) ↔ (any_holds (call_tests call height) ≡ false)
unfolding call_refusal
zero_none_of_call call height =
    zero_none (call_tests call height)
    (λ h. omega arith, (λ h. omega arith, (λ h. omega arith, (λ h. omega arith, (λ h. omega arith, (λ h. omega arith, tt))))))
