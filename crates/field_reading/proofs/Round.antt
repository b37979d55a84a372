-- n / 10000 rounded to an f32, from n * 2 ^ (149 - k) with 24 digits before the point. Assumes nothing.
use mathlib.Core.Path.{◌≡◌, refl, sym, ap, subst, ◌∙◌}
use mathlib.Core.Bool.{true, false}
use Prim.Native.Nat.{ℕ, zero, suc, ◌+◌, ◌-◌, ◌*◌, ◌/◌, ◌%◌, ◌^◌, ◌≤◌, ◌<◌, compare}
use native.Mathlib.Omega.{arith}
use native.Mathlib.Numerals.{sub-one}
use native.Mathlib.Nat.{mul-one, mul_assoc, mul_comm, mul_right_comm, mul-pos, mul-le-mul_right, mul-lt-mul_of_pos_right}
use native.Mathlib.Nat.{le_trans, lt_of_lt_of_le, not-le_of_lt, div-lt_iff_lt-mul, le-div_iff_mul-le, le_of_eq, pow-succ'}
use lib.Dec.{lit<, lit≤}
use lib.Pow.{pow_pos, pow-add}
use lib.Ieee.{Float, neg, binary32, size, units, round, of_bits}
use lib.Ieee.Fits.{nearest-le, round_is}
use lib.Ieee.Nearest.{nearest-ge, closest, closest_same}
use Rattle.field_reading.specs.Nearest.{nearest_whole}
use Rattle.field_reading.specs.Decimal.{ten_thousandths}
use Rattle.single.proofs.Value.{round_neg}
use borrow.Author.Tests.{lt-ltb, le-ltb}
use Rattle.single.proofs.Digits.{size_is}
use Rattle.single.proofs.Sign.{finite_bits}
use Rattle.single.proofs.Units.{units_bits}
use Rattle.single.proofs.Compare.{nearest_down, nearest_up, nearest_even}

-- ---- the loop: m is n * 2 ^ (149 - k)
pub record Scaling (n m k : ℕ) : Type 0 where
  pub some : 0 < m
  pub low : k ≤ 139
  pub high : m < 167772160000
  pub is : m * 2 ^ k ≡ n * 2 ^ 149

pub scaling_starts : (n : ℕ) → 0 < n → n < 100000000 → Scaling n (n * 1024) 139
scaling_starts n p h = record { some = omega arith; low = lit≤ tt; high = omega arith; is = mul_assoc n 1024 (2 ^ 139) }

pub above : (n m k : ℕ) → 0 < n → Scaling n m k → 1 ≤ k
above n m zero p s =
    absurd (not-le_of_lt (lt_of_lt_of_le s.high (let z : 167772160000 ≤ 1 * 2 ^ 149 = lit≤ tt in z))
    (le_trans (mul-le-mul_right (2 ^ 149) p) (le_of_eq (sym s.is ∙ mul-one m))))
above n m (suc k) p s = omega arith

pub scaling_step : (n m k : ℕ) → 0 < n → Scaling n m k → m < 83886080000 → Scaling n (m * 2) (k - 1)
scaling_step n m zero p s h = absurd (not-le_of_lt (lit< tt) (above n m zero p s))
scaling_step n m (suc k) p s h =
    let a = s.some in
    let b : suc k ≤ 139 = s.low in
    let is : m * 2 * 2 ^ k ≡ n * 2 ^ 149 = mul_assoc m 2 (2 ^ k) ∙ ap (λ (x : ℕ). m * x) (sym (pow-succ' 2 k)) ∙ s.is in
    rw (sub-one (suc k)) (record { some = omega arith; low = omega arith; high = omega arith; is = is })

-- ---- the result
pub near_hi : (m : ℕ) → m < 167772160000 → nearest_whole m ≤ 16777216
unfolding nearest_whole
near_hi m h = let z : suc (m / 10000) ≤ 16777216 = omega arith in le_trans (nearest-le (m / 10000) (compare (m % 10000 * 2) 10000)) z

module _ (n m k : ℕ) (s : Scaling n m k) (l : 83886080000 ≤ m) where
  near_lo : 2 ^ 23 ≤ nearest_whole m
  unfolding nearest_whole
  near_lo = let z : 8388608 ≤ m / 10000 = omega arith in le_trans z (nearest-ge (m / 10000) (compare (m % 10000 * 2) 10000))

  abbrev w : ℕ
  w = n * 2 ^ 149 / 10000

  w_lo : 2 ^ (23 + k) ≤ w
  w_lo =
      (le-div_iff_mul-le (lit< {m = 0} {n = 10000} tt)).1
      (le_trans (le_of_eq (ap (λ (x : ℕ). x * 10000) (pow-add 2 23 k) ∙ mul_right_comm (2 ^ 23) (2 ^ k) 10000))
      (le_trans (mul-le-mul_right (2 ^ k) l) (le_of_eq s.is)))

  w_hi : w < 2 ^ suc (23 + k)
  w_hi =
      let one_more : 24 + k ≡ suc (23 + k) = omega arith in
      (div-lt_iff_lt-mul (lit< {m = 0} {n = 10000} tt)).1
      (lt_of_lt_of_le (subst (λ (x : ℕ). x < 167772160000 * 2 ^ k) s.is (mul-lt-mul_of_pos_right s.high (pow_pos k)))
      (le_of_eq (mul_right_comm (2 ^ 24) 10000 (2 ^ k) ∙ ap (λ (x : ℕ). x * 10000) (sym (pow-add 2 24 k) ∙ ap (λ (x : ℕ). 2 ^ x) one_more))))

  pub rounds : round binary32 false n 10000 ≡ of_bits binary32 (k * 8388608 + nearest_whole m)
  unfolding nearest_whole
  rounds =
      let d : size w - 24 ≡ k = omega (arith, size_is w (23 + k) w_lo w_hi) in
      let low = s.low in
      round_is binary32 false n 10000
      ∙ ap (λ (x : ℕ). units binary32 false (closest (n * 2 ^ 149) (10000 * 2 ^ x)) x) d
      ∙ ap (λ (x : ℕ). units binary32 false x k)
      (closest_same (n * 2 ^ 149) (10000 * 2 ^ k) m 10000 (mul-pos (lit< {m = 0} {n = 10000} tt) (pow_pos k)) (lit< {m = 0} {n = 10000} tt)
      (ap (λ (x : ℕ). x * 10000) (sym s.is) ∙ mul_assoc m (2 ^ k) 10000 ∙ ap (λ (x : ℕ). m * x) (mul_comm (2 ^ k) 10000)))
      ∙ units_bits (nearest_whole m) k near_lo (near_hi m s.high) (omega arith)

-- ---- what the tests on the remainder tell
pub near_down : (m : ℕ) → m % 10000 * 2 < 10000 → m / 10000 ≡ nearest_whole m
unfolding nearest_whole
near_down m h = nearest_down (m / 10000) (m % 10000 * 2) 10000 h

pub near_up : (m : ℕ) → 10000 < m % 10000 * 2 → m / 10000 + 1 ≡ nearest_whole m
unfolding nearest_whole
near_up m h = nearest_up (m / 10000) (m % 10000 * 2) 10000 h

pub near_even : (m : ℕ) → m % 10000 * 2 ≡ 10000 → m / 10000 + m / 10000 % 2 ≡ nearest_whole m
unfolding nearest_whole
near_even m h = nearest_even (m / 10000) (m % 10000 * 2) 10000 h

-- ---- the sign
pub plus : (x : Float) (n : ℕ) → x ≡ round binary32 false n 10000 → x ≡ ten_thousandths false n
unfolding ten_thousandths
plus x n e = e

pub minus : (x : Float) (n : ℕ) → x ≡ round binary32 false n 10000 → 0 < n → neg x ≡ ten_thousandths true n
unfolding ten_thousandths
minus x n e h = rw (lt-ltb 0 n h) (ap neg e ∙ round_neg false n 10000)

pub no_minus : (x : Float) (n : ℕ) → x ≡ round binary32 false n 10000 → n ≤ 0 → x ≡ ten_thousandths true n
unfolding ten_thousandths
no_minus x n e h = rw (le-ltb 0 n h) e

pub nothing : (n : ℕ) → n ≡ 0 → of_bits binary32 0 ≡ round binary32 false n 10000
unfolding round of_bits
nothing n e = rw e refl

pub ruleset nearest_found = (near_down, near_up, near_even)

pub ruleset scaled = (nothing, scaling_starts, scaling_step, near_hi, rounds, finite_bits)

pub ruleset signed_answers = (plus, minus, no_minus)
