-- Document 01 section 1, Root: IEEE 754's square root, to the nearest f32, ties to even. By whole numbers and their squares. Definitions only.
use Prim.Native.Nat.{ℕ, zero, suc, ◌+◌, ◌-◌, ◌*◌, ◌/◌, ◌^◌, ◌≤◌, ◌<◌, compare}
use Rattle.std.specs.Prelude.{false, cond, leb, Float}
use Rattle.std.specs.Float.{binary32}
use Rattle.std.specs.Float.Ieee.{units, nearest, size}
use Rattle.single.specs.Single.{on_positive}

-- r is the largest whole number whose square is not above n
pub record IsRoot (n r : ℕ) : Type 0 where
  pub low : r * r ≤ n
  pub high : n < (r + 1) * (r + 1)

-- that number, for an n below 4 ^ fuel: twice the root of n / 4, or one more
unfoldable pub root_by : ℕ → ℕ → ℕ
root_by zero n = 0
root_by (suc fuel) n = let r = 2 * root_by fuel (n / 4) in cond (leb ((r + 1) * (r + 1)) n) (r + 1) r

-- IsRoot n (isqrt n), and no other number: proofs/Whole.antt
unfoldable pub isqrt : ℕ → ℕ
isqrt n = root_by (size n) n

-- The f32 nearest to √x units of 2 ^ -149. Of the whole part s of √x it keeps the 24 leading digits, q, and drops k;
-- √x is compared with the middle between q and q + 1, which is (2 * q + 1) * 2 ^ k / 2, by the squares; a tie goes to the even one.
unfoldable pub root_units : ℕ → Float
root_units x =
    let s = isqrt x in
    let k = size s - 24 in
    let q = s / 2 ^ k in
    let mid = (2 * q + 1) * 2 ^ k in
    units binary32 false (nearest q (compare (4 * x) (mid * mid))) k

-- y is n * 2 ^ -149, so √y is √(n * 2 ^ 149) units of 2 ^ -149. The root of a zero is that zero.
unfoldable pub root : Float → Float
root y = on_positive y (λ (n : ℕ). root_units (n * 2 ^ 149)) y
