-- Document 01, "Order": the number of each refusal, and what an answer with a refusal says. Definitions only.
use Rattle.std.specs.Prelude.{ℕ, cond, eqb, ◌≡◌, Result, Ok, Err}
use Rattle.refusals.specs.declared.Refusal.{Refusal}
use Rattle.refusals.specs.declared.Refusal.TheVariants as R

abbrev pub number_of : Refusal → ℕ
number_of R.Type = 1
number_of R.Number = 2
number_of R.Conductivity = 3
number_of R.Mhz = 4
number_of R.Bays = 5
number_of R.Argument = 6
number_of R.Length = 7
number_of R.Malformed = 8
number_of R.Height = 9
number_of R.Count = 10
number_of R.Unsettled = 11

-- of a number from 1 to 11
abbrev pub refusal_of : ℕ → Refusal
refusal_of n =
    cond (eqb n 1) R.Type
    (cond (eqb n 2) R.Number
    (cond (eqb n 3) R.Conductivity
    (cond (eqb n 4) R.Mhz
    (cond (eqb n 5) R.Bays
    (cond (eqb n 6) R.Argument
    (cond (eqb n 7) R.Length
    (cond (eqb n 8) R.Malformed
    (cond (eqb n 9) R.Height
    (cond (eqb n 10) R.Count R.Unsettled)))))))))

-- 0 of an accepted call
abbrev pub outcome_number : {A : Type 0} → Result A Refusal → ℕ
outcome_number (Ok a) = 0
outcome_number (Err e) = number_of e

-- the zeros of a refused call
abbrev pub outcome_values : {A : Type 0} → A → Result A Refusal → A
outcome_values zeros (Ok a) = a
outcome_values zeros (Err e) = zeros

-- the values where the number is 0, else the refusal of that number
abbrev pub answered : {A : Type 0} → ℕ → A → Result A Refusal
answered n values = cond (eqb n 0) (Ok values) (Err (refusal_of n))

abbrev pub judged : ℕ → Result Unit Refusal
judged n = answered n tt

-- a verdict, and with it its number
abbrev pub IsJudged : ℕ → Result Unit Refusal → Type 0
IsJudged n verdict = (verdict ≡ judged n) × (outcome_number verdict ≡ n)
