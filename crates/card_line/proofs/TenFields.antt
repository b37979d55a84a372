-- The ten fields, read one by one. Assumes nothing.
use mathlib.Core.Path.{◌≡◌, refl, sym, ap, subst, ◌∙◌}
use mathlib.Core.Bool.{true, false}
use mathlib.Core.List.{List}
use mathlib.Core.Logic.{inl, inr, ◌≢◌}
use Prim.Native.Nat.{ℕ, zero, suc, ◌+◌, ◌-◌, ◌*◌, ◌≤◌, ◌<◌}
use native.Mathlib.Omega.{arith}
use native.Mathlib.Numerals.{add-one}
use native.Mathlib.Nat.{eq-or-lt_of_le, le_of_suc-le-suc, not-suc-le-zero}
use borrow.Author.Count.{below_more}
use lib.ListN.{length, take, drop, set, get_or, length-set}
use lib.Seq.{get_or-set_same, get_or-set_other}
use lib.Ieee.{Float, nan}
use Rattle.std.proofs.Common.{Option, Some, None}
use Rattle.field_reading.specs.Decimal.{decimal_of, decimal_value}
use Rattle.card_line.specs.Line.{columns, decimal_at, decimals_read}
use Rattle.card_line.specs.TenFields.{Values}

-- field k as the code cuts it out
abbrev pub cut : List ℕ → ℕ → List ℕ
cut l k = take (9 + 11 * k + 11 - (9 + 11 * k)) (drop (9 + 11 * k) l)

cut_is : (l : List ℕ) (k : ℕ) (d x : Option Float) → d ≡ decimal_of (cut l k) → d ≡ x → decimal_at l k ≡ x
cut_is l k d x e f = ap (λ (n : ℕ). decimal_of (columns (9 + 11 * k) n l)) (let z : 11 ≡ 9 + 11 * k + 11 - (9 + 11 * k) = omega arith in z) ∙ sym e ∙ f

-- the first k are read
pub record Reading (l : List ℕ) (v : List Float) (k : ℕ) : Type 0 where
  pub low : k ≤ 10
  pub long : length v ≡ 10
  pub all : decimals_read l k ≡ true
  pub each : (j : ℕ) → j < k → get_or v j nan ≡ decimal_value (decimal_at l j)

pub reading_start : (l : List ℕ) (v : List Float) → length v ≡ 10 → Reading l v 0
unfolding decimals_read
reading_start l v e = record { low = omega arith; long = e; all = refl; each = λ j h. absurd (not-suc-le-zero h) }

pub reading_step : (l : List ℕ) (v : List Float) (k : ℕ) (d : Option Float) (x : Float) → Reading l v k → k < 10
    → d ≡ decimal_of (cut l k) → d ≡ Some x → Reading l (set v k x) (k + 1)
unfolding decimals_read
reading_step l v k d x i h e f =
    let g : decimal_at l k ≡ Some x = cut_is l k d (Some x) e f in
    record {
      low = omega arith;
      long = length-set v k x ∙ i.long;
      all = rw (add-one k, i.all, g) refl;
      each =
          below_more (λ (j : ℕ). get_or (set v k x) j nan ≡ decimal_value (decimal_at l j)) k
          (λ j b. get_or-set_other v k j x nan (let z : j ≢ k = omega arith in z) ∙ i.each j b)
          (get_or-set_same v k x nan (omega (arith, i.long)) ∙ sym (ap decimal_value g));
    }

-- one that is malformed makes the line so
stays_false : (l : List ℕ) (j n : ℕ) → j ≤ n → decimals_read l j ≡ false → decimals_read l n ≡ false
unfolding decimals_read
stays_false l zero zero h b = b
stays_false l (suc j) zero h b = absurd (not-suc-le-zero h)
stays_false l j (suc n) h b =
    elim (eq-or-lt_of_le h) [
      | inl e ↦ subst (λ (x : ℕ). decimals_read l x ≡ false) e b
      | inr g ↦ rw (stays_false l j n (le_of_suc-le-suc g) b) refl
    ]

pub reading_fails : (l : List ℕ) (v : List Float) (k : ℕ) (d : Option Float) → Reading l v k → k < 10
    → d ≡ decimal_of (cut l k) → d ≡ None → decimals_read l 10 ≡ false
unfolding decimals_read
reading_fails l v k d i h e f =
    let b : decimals_read l (suc k) ≡ false = rw (i.all, cut_is l k d None e f) refl in
    stays_false l (suc k) 10 h b

pub reading_ends : (l : List ℕ) (v : List Float) (k : ℕ) → Reading l v k → 10 ≤ k → Values l v
reading_ends l v k i h =
    let e : k ≡ 10 = omega (arith, i.low) in
    let at10 : Reading l v 10 = subst (Reading l v) e i in
    record { all = at10.all; each = at10.each }

pub ruleset fields_read = (reading_fails, reading_ends)
