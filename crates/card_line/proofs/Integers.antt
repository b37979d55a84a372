-- The integers of a line: three columns hold less than 1000. Assumes nothing.
use mathlib.Core.Path.{◌≡◌, sym, ap, subst, ◌∙◌}
use mathlib.Core.List.{List}
use Prim.Native.Nat.{ℕ, ◌≤◌, ◌<◌}
use native.Mathlib.Nat.{min-le_left, pow-le-pow_right, zero-lt-suc, lt_of_lt_of_le}
use lib.Dec.{lit≤}
use lib.IntN.{ℤ, nat_abs}
use lib.ListN.{length, drop, length-take}
use mir.Syntax.{w32, w64}
use mir.Val.{SFits, to_z, of_z}
use mir.ValLaws.{to_z-of_z}
use Rattle.single.proofs.Integers.{within}
use Rattle.std.proofs.Common.{Some}
use Rattle.field_reading.specs.Integer.{integer_value}
use Rattle.field_reading.proofs.Sizes.{integer_within, integer_fits}
use Rattle.card_line.specs.Line.{columns, integer_at}

pub number_below : (l : List ℕ) (a : ℕ) (z : ℤ) → integer_at l a ≡ Some z → nat_abs z < 1000
number_below l a z e =
    let three : length (columns a 3 l) ≤ 3 = subst (λ (n : ℕ). n ≤ 3) (sym (length-take 3 (drop a l))) (min-le_left 3 (length (drop a l))) in
    lt_of_lt_of_le (integer_within (columns a 3 l) z e) (pow-le-pow_right (zero-lt-suc 9) three)

-- ---- read as an i64, taken as an i32
-- as the code hands it on
abbrev pub narrowed : ℤ → ℤ
narrowed z = to_z w32 (of_z w32 (to_z w64 (of_z w64 z)))

module _ (l : List ℕ) (a : ℕ) (z : ℤ) (e : integer_at l a ≡ Some z) where
  as_i64 : to_z w64 (of_z w64 z) ≡ z
  as_i64 = to_z-of_z w64 z (integer_fits (columns a 3 l) z e)

  pub i32_fits : SFits w32 (to_z w64 (of_z w64 z))
  i32_fits = subst (λ (y : ℤ). SFits w32 y) (sym as_i64) (within w32 z (lt_of_lt_of_le (number_below l a z e) (lit≤ tt)))

  pub narrowed_is : narrowed z ≡ integer_value (integer_at l a)
  narrowed_is = to_z-of_z w32 (to_z w64 (of_z w64 z)) i32_fits ∙ as_i64 ∙ sym (ap integer_value e)
