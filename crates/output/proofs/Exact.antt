-- 200 times an f32 that is not negative is exact in f64, and half of one more than its whole part is 100 times it to the nearest. Assumes nothing.
use Rattle.std.proofs.Common.{◌≡◌, ℕ, zero, suc, ◌+◌, ◌-◌, ◌*◌, ◌/◌, ◌%◌, ◌^◌, ◌<◌, ◌≤◌, true, false, ◌&&◌, T, eqb, ltb, leb, ℤ, pos}
use Rattle.std.proofs.Common.{negsuc, sym, ap, ◌∙◌, subst, true≢false, le_trans, le_of_eq, le_refl, lt_of_lt_of_le, mul_assoc}
use Rattle.std.proofs.Common.{lt-suc_self, suc-mul, mul_comm, div-lt_iff_lt-mul, lt_of_mul-lt-mul_right, mul-lt-mul_of_pos_right}
use Rattle.std.proofs.Common.{mul-pos, one-mul, lt_of_not-le, le-div_iff_mul-le, mul-one, mul_right_comm, not-le_of_lt, mul_left_comm}
use Rattle.std.proofs.Common.{arith, lit<, lit≤, ltb→lt, lt→ltb, leb→le, pow_pos, pow_mono, pow-add, shl_lt, ltb-true}
use native.Mathlib.Nat.{div-div-eq-div-mul, add-div_right, min-eq_left, mul-mul-mul_comm}
use lib.Ieee.{Float, nan, inf, fin, binary32, binary64, up, down, lt, mul, fits, round, of_bits, to_unsigned}
use lib.Ieee.Fits.{and_l, and_r, down_pos}
use lib.Ieee.Nearest.{div_same}
use lib.Ieee.Exact.{HasValue, round_exact}
use Rattle.single.specs.Single.{is_negative}
use Rattle.single.proofs.Value.{zero_exp}
use Rattle.output.specs.Hundredths.{half_up, size_of}

-- ---- what fits binary32 has at most 24 digits, and 149 places after the point
parts : (m : ℕ) (e : ℤ) → T (fits binary32 (fin false m e)) → (m < 2 ^ 24) × (down e ≤ 2 ^ 149)
unfolding fits
parts zero e t = (lit< tt, subst (λ (z : ℤ). down z ≤ 2 ^ 149) (sym (zero_exp binary32 false e t)) (lit≤ tt))
parts (suc m) e t =
    let small = ltb (suc m) (2 ^ 24) in
    let fine = leb (down e) (2 ^ 149) in
    let a = and_l (eqb (suc m % 2) 1 && small && fine) (ltb (suc m * up e) (2 ^ 128 * down e)) t in
    let b = and_l (eqb (suc m % 2) 1 && small) fine a in
    (ltb→lt (suc m) (2 ^ 24) (and_r (eqb (suc m % 2) 1) small b), leb→le (down e) (2 ^ 149) (and_r (eqb (suc m % 2) 1 && small) fine a))

within : (a : ℕ) → 2 ^ suc a ≤ 2 ^ 149 → suc a ≤ 149
within a h =
    let z : suc a < 150 = lt_of_not-le (λ (g : 150 ≤ suc a). not-le_of_lt (lit< {m = 2 ^ 149} {n = 2 ^ 150} tt) (le_trans (pow_mono g) h)) in
    omega arith

-- ---- 200 times it
exact : (n : ℕ) (e : ℤ) → n < 2 ^ 24 → down e ≤ 2 ^ 149 → n * up e < 2 ^ 56 * down e
    → HasValue (round binary64 false (n * up e * (25 * 2 ^ 3)) (down e * 1)) false (n * up e * (25 * 2 ^ 3)) (down e * 1)
exact n (pos a) M D h =
    let q : n * 25 < 2 ^ 53 = omega arith in
    let is : n * 2 ^ a * 200 * 2 ^ 1074 ≡ n * 25 * 2 ^ (a + 1077) * (1 * 1) =
    mul_assoc (n * 2 ^ a) 200 (2 ^ 1074)
    ∙ mul-mul-mul_comm n (2 ^ a) 25 (2 ^ 1077)
    ∙ ap (λ (x : ℕ). n * 25 * x) (sym (pow-add 2 a 1077))
    ∙ sym (mul-one (n * 25 * 2 ^ (a + 1077))) in
    let top : n * 25 * 2 ^ (a + 1077) < 2 ^ 2098 =
    subst (λ (x : ℕ). x < 2 ^ 2098) (mul-mul-mul_comm n (2 ^ a) 25 (2 ^ 1077) ∙ ap (λ (x : ℕ). n * 25 * x) (sym (pow-add 2 a 1077)))
    (lt_of_lt_of_le (mul-lt-mul_of_pos_right h (lit< {m = 0} {n = 25 * 2 ^ 1077} tt)) (let z : 2 ^ 56 * 1 * (25 * 2 ^ 1077) ≤ 2 ^ 2098 = lit≤ tt in z)) in
    round_exact binary64 false (n * 2 ^ a * 200) (1 * 1) (n * 25) (a + 1077) (lit< tt) q top is
exact n (negsuc a) M D h =
    let l : suc a ≤ 149 = within a D in
    let j = 1077 - suc a in
    let back : j + suc a ≡ 1077 = omega arith in
    let q : n * 25 < 2 ^ 53 = omega arith in
    let is : n * 1 * 200 * 2 ^ 1074 ≡ n * 25 * 2 ^ j * (2 ^ suc a * 1) =
    mul_assoc (n * 1) 200 (2 ^ 1074)
    ∙ mul-mul-mul_comm n 1 25 (2 ^ 1077)
    ∙ ap (λ (x : ℕ). n * 25 * x) (one-mul (2 ^ 1077) ∙ ap (λ (x : ℕ). 2 ^ x) (sym back) ∙ pow-add 2 j (suc a))
    ∙ ap (λ (x : ℕ). n * 25 * (2 ^ j * x)) (sym (mul-one (2 ^ suc a)))
    ∙ sym (mul_assoc (n * 25) (2 ^ j) (2 ^ suc a * 1)) in
    let top : n * 25 * 2 ^ j < 2 ^ 2098 = lt_of_lt_of_le (shl_lt 53 j q) (pow_mono (let z : 53 + j ≤ 2098 = omega arith in z)) in
    round_exact binary64 false (n * 1 * 200) (2 ^ suc a * 1) (n * 25) j (mul-pos (pow_pos (suc a)) (lit< tt)) q top is

-- ---- cut to a whole number
cross : (p c a d k : ℕ) → 0 < d → p * c ≡ a * d → a < k * c → p < k * d
cross p c a d k D e h =
    lt_of_mul-lt-mul_right c
    (lt_of_lt_of_le (subst (λ (x : ℕ). x < k * c * d) (sym e) (mul-lt-mul_of_pos_right h D)) (le_of_eq (mul_right_comm k c d)))

abbrev InU64 : Float → Type 0
InU64 y = T (lt (fin true 1 (pos 0)) y) × T (lt y (fin false 1 (pos 64)))

pub record Cut (y : Float) (a c : ℕ) : Type 0 where
  pub in_u64 : InU64 y
  pub whole : to_unsigned 64 y ≡ a / c

cut : (y : Float) (a c : ℕ) → 0 < c → HasValue y false a c → a < 200 * 2 ^ 56 * c → Cut y a c
unfolding lt to_unsigned
cut nan a c C v h = absurd v
cut (inf s) a c C v h = absurd v
cut (fin true m e) a c C v h = absurd (true≢false v.0)
cut (fin false m e) a c C v h =
    let d : 0 < down e = down_pos e in
    let k : m * up e < 200 * 2 ^ 56 * down e = cross (m * up e) c a (down e) (200 * 2 ^ 56) d v.1 h in
    let q : m * up e / down e < 200 * 2 ^ 56 = (div-lt_iff_lt-mul d).1 k in
    record {
      in_u64 = (lt→ltb 0 (1 * 1 * down e + m * up e * 1) (omega arith), lt→ltb (m * up e * 1) (1 * 2 ^ 64 * down e) (omega arith));
      whole = min-eq_left (let z : m * up e / down e ≤ 2 ^ 64 - 1 = omega arith in z) ∙ div_same (m * up e) (down e) a c d C v.1;
    }

-- ---- `half_up` is the whole number h with a / b - 1/2 < h <= a / b + 1/2
pub half_up_nearest : (a b : ℕ) → 0 < b → (2 * a < 2 * (half_up a b * b) + b) × (2 * (half_up a b * b) ≤ 2 * a + b)
half_up_nearest a b B =
    let h = half_up a b in
    let D : 0 < 2 * b = omega arith in
    let lo : h * (2 * b) ≤ 2 * a + b = (le-div_iff_mul-le D).0 (le_refl h) in
    let hi : 2 * a + b < suc h * (2 * b) = (div-lt_iff_lt-mul D).0 (lt-suc_self h) in
    let e : h * (2 * b) ≡ 2 * (h * b) = mul_left_comm h 2 b in
    let f : suc h * (2 * b) ≡ h * (2 * b) + 2 * b = suc-mul h (2 * b) in
    (omega arith, omega arith)

-- ---- half of one more than the whole part
half : (a b : ℕ) → 0 < b → (a * (25 * 2 ^ 3) / (b * 1) + 1) / 2 ≡ half_up (100 * a) b
half a b B =
    ap (λ (x : ℕ). (a * 200 / x + 1) / 2) (mul-one b)
    ∙ ap (λ (x : ℕ). x / 2) (sym (add-div_right (a * 200) B))
    ∙ div-div-eq-div-mul (a * 200 + b) b 2
    ∙ ap (λ (x : ℕ). (x + b) / (b * 2)) (let z : a * 200 ≡ 2 * (100 * a) = omega arith in z)
    ∙ ap (λ (x : ℕ). (2 * (100 * a) + b) / x) (mul_comm b 2)

-- ---- what `rounded` counts
pub record Counted (x y : Float) : Type 0 where
  pub in_u64 : InU64 y
  pub small : to_unsigned 64 y < 200 * 2 ^ 56
  pub is : (to_unsigned 64 y + 1) / 2 ≡ size_of x

pub counted : (x : Float) → T (fits binary32 x) → is_negative x ≡ false → lt x (of_bits binary32 0x5b800000) ≡ true
    → Counted x (mul binary64 x (of_bits binary64 0x4069000000000000))
unfolding lt mul of_bits size_of
counted nan f p h = absurd (true≢false (sym h))
counted (inf true) f p h = absurd (true≢false p)
counted (inf false) f p h = absurd (true≢false (sym h))
counted (fin true m e) f p h = absurd (true≢false p)
counted (fin false m e) f p h =
    let l : m * up e * 1 < 1 * 2 ^ 56 * down e = ltb-true (m * up e * 1) (1 * 2 ^ 56 * down e) h in
    let g : m * up e < 2 ^ 56 * down e = omega arith in
    let w = parts m e f in
    let d : 0 < down e = down_pos e in
    let k : m * up e * 200 < 200 * 2 ^ 56 * (down e * 1) = omega arith in
    let y = round binary64 false (m * up e * (25 * 2 ^ 3)) (down e * 1) in
    let c = cut y (m * up e * 200) (down e * 1) (mul-pos d (lit< tt)) (exact m e w.0 w.1 g) k in
    record {
      in_u64 = c.in_u64;
      small = subst (λ (x : ℕ). x < 200 * 2 ^ 56) (sym c.whole) ((div-lt_iff_lt-mul (mul-pos d (lit< tt))).1 k);
      is = ap (λ (x : ℕ). (x + 1) / 2) c.whole ∙ half (m * up e) (down e) d;
    }
