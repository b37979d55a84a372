-- What `contains` answers at a range of whole numbers. Assumes nothing.
use Prim.Native.Nat.{ℕ}
use mathlib.Core.Path.{◌≡◌, refl}
use mathlib.Core.Bool.{Bool, true, false, ◌&&◌}
use lib.Dec.{leb, ltb}
use lib.IntN.{ℤ, pos, negsuc}
use lib.Signed.{le_z}
use borrow.Author.Tests.{le-leb, lt-leb, ltb-true, ltb-false}
use native.Mathlib.Omega.{arith}
use Rattle.std.specs.Ordering.{int_cmp, is_le}

is_le_of : (a b : ℕ) → is_le (int_cmp (pos a) (pos b)) ≡ leb a b
is_le_of a b = go (ltb a b) refl (ltb b a) refl
  where
    go : (x : Bool) → ltb a b ≡ x → (y : Bool) → ltb b a ≡ y → is_le (int_cmp (pos a) (pos b)) ≡ leb a b
    go true e y f = rw (e, le-leb a b (omega (arith, ltb-true a b e)))
    go false e true f = rw (e, f, lt-leb a b (ltb-true b a f))
    go false e false f = rw (e, f, le-leb a b (omega (arith, ltb-false b a f)))

pub is_le_is : (x y : ℤ) → is_le (int_cmp x y) ≡ le_z x y
is_le_is (pos a) (pos b) = is_le_of a b
is_le_is (pos a) (negsuc b) = refl
is_le_is (negsuc a) (pos b) = refl
is_le_is (negsuc a) (negsuc b) = is_le_of b a

pub within_is : (low high k : ℤ) → (is_le (int_cmp low k) && is_le (int_cmp k high)) ≡ (le_z low k && le_z k high)
within_is low high k = rw (is_le_is low k, is_le_is k high)
