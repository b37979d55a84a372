-- Whole roots: `isqrt` is the one number that IsRoot allows. Assumes nothing.
use mathlib.Core.Path.{◌≡◌}
use mathlib.Core.Bool.{Bool, true, false, not, cond}
use Prim.Native.Nat.{ℕ, zero, suc, ◌+◌, ◌*◌, ◌/◌, ◌^◌, ◌≤◌, ◌<◌}
use native.Mathlib.Omega.{arith}
use native.Mathlib.Nat.{mul-le-mul, lt_of_le_of_lt, lt_of_not-le, not-le_of_lt, pow-succ'}
use lib.Dec.{T, leb, leb→le, nleb→lt}
use lib.Ieee.{size}
use lib.Ieee.Digits.{size-lt}
use Rattle.root.specs.Root.{IsRoot, isqrt, root_by}

step : (n a : ℕ) → IsRoot (n / 4) a → IsRoot n (cond (leb ((2 * a + 1) * (2 * a + 1)) n) (2 * a + 1) (2 * a))
step n a h = go (leb ((2 * a + 1) * (2 * a + 1)) n) (leb→le ((2 * a + 1) * (2 * a + 1)) n) (nleb→lt ((2 * a + 1) * (2 * a + 1)) n)
  where
    go : (b : Bool) → (T b → (2 * a + 1) * (2 * a + 1) ≤ n) → (T (not b) → n < (2 * a + 1) * (2 * a + 1)) → IsRoot n (cond b (2 * a + 1) (2 * a))
    go true f g = let l : (2 * a + 1) * (2 * a + 1) ≤ n = f tt in record { low = l; high = omega arith }
    go false f g = let l : n < (2 * a + 1) * (2 * a + 1) = g tt in record { low = omega arith; high = l }

root_by_is : (fuel n : ℕ) → n < 4 ^ fuel → IsRoot n (root_by fuel n)
unfolding root_by
root_by_is zero n h = record { low = omega arith; high = omega arith }
root_by_is (suc fuel) n h = step n (root_by fuel (n / 4)) (root_by_is fuel (n / 4) (let e : 4 ^ suc fuel ≡ 4 * 4 ^ fuel = pow-succ' 4 fuel in omega arith))

pow_four : (k : ℕ) → 2 ^ k ≤ 4 ^ k
pow_four zero = omega arith
pow_four (suc k) = let e : 4 ^ suc k ≡ 4 * 4 ^ k = pow-succ' 4 k in let f : 2 ^ suc k ≡ 2 * 2 ^ k = pow-succ' 2 k in let i : 2 ^ k ≤ 4 ^ k = pow_four k in omega arith

pub isqrt_is : (n : ℕ) → IsRoot n (isqrt n)
unfolding isqrt
isqrt_is n = root_by_is (size n) n (let h : n < 2 ^ size n = size-lt n in let i : 2 ^ size n ≤ 4 ^ size n = pow_four (size n) in omega arith)

pub square_lt : (a b : ℕ) → a * a < b * b → a < b
square_lt a b h = lt_of_not-le (λ (g : b ≤ a). not-le_of_lt h (mul-le-mul g g))

pub unique : (n a b : ℕ) → IsRoot n a → IsRoot n b → a ≡ b
unique n a b x y =
    let l : a < b + 1 = square_lt a (b + 1) (lt_of_le_of_lt x.low y.high) in
    let m : b < a + 1 = square_lt b (a + 1) (lt_of_le_of_lt y.low x.high) in
    omega arith

pub isqrt_of : (n r : ℕ) → IsRoot n r → isqrt n ≡ r
isqrt_of n r h = unique n (isqrt n) r (isqrt_is n) h
