-- The two kinds of numbers, from what was read of their parts. Assumes nothing.
use mathlib.Core.Path.{◌≡◌, refl, sym, ap, ◌∙◌}
use mathlib.Core.Bool.{true, false}
use mathlib.Core.List.{List}
use Prim.Native.Nat.{ℕ, ◌+◌, ◌-◌, ◌*◌, ◌^◌, ◌≤◌, ◌<◌}
use native.Mathlib.Omega.{arith}
use native.Mathlib.Nat.{lt_of_lt_of_le}
use lib.Dec.{lit≤}
use Rattle.std.proofs.Common.{Option, Some, None}
use borrow.Author.Tests.{eq-eqb, ne_eqb}
use lib.IntN.{pos, ◌-ℤ◌}
use lib.ListN.{length, take, drop, get_or}
use lib.Ieee.{Float}
use mir.Syntax.{w64}
use mir.Val.{SFits, to_z, of_z}
use Rattle.field_reading.specs.declared.reading.Signed.{Signed}
use Rattle.field_reading.specs.Digits.{digits_of, unspaced, signed_of}
use Rattle.field_reading.specs.Integer.{integer, integer_of}
use Rattle.field_reading.specs.Decimal.{ten_thousandths, pointed, decimal_of}
use Rattle.single.proofs.Integers.{as_i64_fits, as_i64, negated_fits, negated_i64}
use Rattle.std.proofs.lemmas.List.{take_rest}
use Rattle.field_reading.proofs.Sizes.{digits_below, signed_below, bound, signed_bound}

-- ---- a decimal: p is its point's column
module _ (l : List ℕ) (p : ℕ) (w : 5 ≤ length l) (q : p ≡ length l - 5) where
  abbrev front : Option Signed
  front = signed_of 4 (take p l)

  abbrev back : Option ℕ
  back = digits_of 4 (take (length l - (p + 1)) (drop (p + 1) l))

  parted : pointed front (get_or l p 0) back ≡ decimal_of l
  unfolding decimal_of
  parted =
      let e : p + 1 ≡ length l - 4 = omega arith in
      rw (take_rest l (p + 1), e, q) refl

  pub no_front : None ≡ front → None ≡ decimal_of l
  unfolding pointed
  no_front e = ap (λ (x : Option Signed). pointed x (get_or l p 0) back) e ∙ parted

  pub no_back : None ≡ back → None ≡ decimal_of l
  unfolding pointed
  no_back e = sym (none front) ∙ ap (pointed front (get_or l p 0)) e ∙ parted
    where
      none : (x : Option Signed) → pointed x (get_or l p 0) None ≡ None
      none (Some s) = refl
      none None = refl

  pub no_point : (get_or l p 0 ≡ 46 → ⊥) → None ≡ decimal_of l
  unfolding pointed
  no_point z = sym (none front back) ∙ parted
    where
      none : (x : Option Signed) (y : Option ℕ) → pointed x (get_or l p 0) y ≡ None
      none (Some s) (Some b) = rw (ne_eqb (get_or l p 0) 46 z) refl
      none (Some s) None = refl
      none None y = refl

  pub value : (s : Signed) (b : ℕ) (v : Float) → Some s ≡ front → Some b ≡ back → get_or l p 0 ≡ 46
      → v ≡ ten_thousandths s.minus (s.magnitude * 10000 + b) → Some v ≡ decimal_of l
  unfolding pointed
  value s b v e f z t = at ∙ (λ i. pointed (e i) (get_or l p 0) (f i)) ∙ parted
    where
      at : Some v ≡ pointed (Some s) (get_or l p 0) (Some b)
      at = rw (eq-eqb (get_or l p 0) 46 z) (ap Some t)

pub too_short : (l : List ℕ) → (5 ≤ length l → ⊥) → None ≡ decimal_of l
unfolding decimal_of pointed signed_of unspaced digits_of
too_short l h = let z : length l - 5 ≡ 0 = omega arith in rw z refl

pub front_below : (l : List ℕ) (s : Signed) → Some s ≡ signed_of 4 l → s.magnitude < 10000
front_below l s e = signed_bound (Some s) s 10000 (signed_of 4 l) e refl (signed_below 4 l)

pub back_below : (l : List ℕ) (n : ℕ) → Some n ≡ digits_of 4 l → n < 10000
back_below l n e = bound (Some n) n 10000 (digits_of 4 l) e refl (digits_below 4 l)

pub ruleset decimal_bounds = (front_below, back_below)

-- ---- an integer
below_i64 : (l : List ℕ) (s : Signed) → Some s ≡ signed_of 18 l → s.magnitude < 2 ^ 63
below_i64 l s e = lt_of_lt_of_le (signed_bound (Some s) s (10 ^ 18) (signed_of 18 l) e refl (signed_below 18 l)) (lit≤ tt)

pub casts : (l : List ℕ) (s : Signed) → Some s ≡ signed_of 18 l → SFits w64 (pos s.magnitude)
casts l s e = as_i64_fits s.magnitude (below_i64 l s e)

pub turns : (l : List ℕ) (s : Signed) → Some s ≡ signed_of 18 l → SFits w64 (pos 0 -ℤ to_z w64 s.magnitude)
turns l s e = negated_fits s.magnitude (below_i64 l s e)

pub ruleset integer_bounds = (casts, turns)

pub no_integer : (l : List ℕ) → None ≡ signed_of 18 l → None ≡ integer_of l
unfolding integer_of integer
no_integer l e = rw (← e) refl

pub negative : (l : List ℕ) (s : Signed) → Some s ≡ signed_of 18 l → s.minus ≡ true
    → Some (to_z w64 (of_z w64 (pos 0 -ℤ to_z w64 s.magnitude))) ≡ integer_of l
unfolding integer_of integer
negative l s e t = rw (← e, t) (ap Some (negated_i64 s.magnitude (below_i64 l s e)))

pub positive : (l : List ℕ) (s : Signed) → Some s ≡ signed_of 18 l → s.minus ≡ false → Some (to_z w64 s.magnitude) ≡ integer_of l
unfolding integer_of integer
positive l s e t = rw (← e, t) (ap Some (as_i64 s.magnitude (below_i64 l s e)))
