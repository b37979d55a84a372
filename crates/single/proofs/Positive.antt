-- A positive f32 and its pattern: normal, subnormal or the infinity; a subnormal times 2 ^ 24, exactly; and the cases of `on_positive` as code tests them. Assumes nothing.
use mathlib.Core.Path.{◌≡◌, refl, sym, ap, subst, ◌∙◌}
use mathlib.Core.Bool.{Bool, true, false, not, cond, ◌||◌, beq}
use Prim.Native.Nat.{ℕ, zero, suc, ◌+◌, ◌-◌, ◌*◌, ◌/◌, ◌%◌, ◌^◌, ◌≤◌, ◌<◌}
use native.Mathlib.Omega.{arith}
use native.Mathlib.Nat.{mul-one, mul_right_comm, mul-pos, mul-div_cancel, zero-mul, lt_irrefl, lt_of_lt_of_le, lt_of_not-le, not-le_of_lt, zero-lt-suc}
use mathlib.Core.Logic.{inl, inr}
use borrow.Author.Tests.{ltb-false}
use lib.IntN.{ℤ}
use lib.Dec.{T, eqb, eqb→eq, lit≤, nleb→lt}
use lib.Pow.{pow_pos, pow_mono, shl_lt}
use lib.Ieee.{Float, nan, inf, fin, binary32, up, down, lt, eq, mul, div, level, fits, is_nan, to_bits, of_bits}
use lib.Ieee.Bits.{of_bits-to_bits}
use lib.Ieee.Fits.{and_l, down_pos, up_pos, mul-fits}
use lib.Ieee.Exact.{HasValue, round_exact}
use lib.Ieee.Scale.{round_same}
use Rattle.single.proofs.Booleans.{holds}
use Rattle.single.proofs.Compare.{le-or-lt}
use Rattle.single.specs.Single.{is_negative, on_positive}
use Rattle.single.proofs.Sign.{sign_bit}
use Rattle.single.proofs.Value.{value_same, bits_normal, bits_low, bits_top}

-- what `y > 0.0` tells
pub positive_no_nan : (y : Float) → lt (of_bits binary32 0) y ≡ true → T (not (is_nan y))
unfolding lt is_nan of_bits
positive_no_nan nan h = absurd (holds h)
positive_no_nan (inf s) h = tt
positive_no_nan (fin s m e) h = tt

pub positive_sign : (y : Float) → lt (of_bits binary32 0) y ≡ true → is_negative y ≡ false
unfolding lt of_bits
positive_sign nan h = refl
positive_sign (inf false) h = refl
positive_sign (inf true) h = absurd (holds h)
positive_sign (fin false m e) h = refl
positive_sign (fin true m e) h = absurd (holds h)

value_sign : (y : Float) (a c : ℕ) → HasValue y false a c → is_negative y ≡ false
value_sign nan a c v = absurd v
value_sign (inf s) a c v = absurd v
value_sign (fin s m e) a c v = v.0

pub value_no_nan : (y : Float) (a c : ℕ) → HasValue y false a c → T (not (is_nan y))
unfolding is_nan
value_no_nan nan a c v = absurd v
value_no_nan (inf s) a c v = absurd v
value_no_nan (fin s m e) a c v = tt

-- a pattern below 2 ^ 31
plus_below : (y : Float) → T (fits binary32 y) → T (not (is_nan y)) → is_negative y ≡ false → to_bits binary32 y < 2147483648
plus_below y f n s = nleb→lt 2147483648 (to_bits binary32 y) (subst (λ (b : Bool). T (not b)) (sym (sign_bit y f n ∙ s)) tt)

no_value : (b : Bool) (a c : ℕ) → HasValue (cond b (inf false) nan) false a c → ⊥
no_value true a c v = v
no_value false a c v = v

pub finite_below : (y : Float) (a c : ℕ) → T (fits binary32 y) → HasValue y false a c → to_bits binary32 y < 2139095040
finite_below y a c f v =
    let b = to_bits binary32 y in
    lt_of_not-le (λ (g : 2139095040 ≤ to_bits binary32 y).
    no_value (eqb (b % 8388608) 0) a c (subst (λ (x : Float). HasValue x false a c) (sym (of_bits-to_bits binary32 y f) ∙ bits_top b g (plus_below y f (value_no_nan y a c v) (value_sign y a c v))) v))

pub at_top : (y : Float) → T (fits binary32 y) → lt (of_bits binary32 0) y ≡ true → 2139095040 ≤ to_bits binary32 y → y ≡ inf false
at_top y f h g =
    let n = positive_no_nan y h in
    go (eqb (to_bits binary32 y % 8388608) 0) (sym (of_bits-to_bits binary32 y f) ∙ bits_top (to_bits binary32 y) g (plus_below y f n (positive_sign y h))) n
  where
    go : (b : Bool) → y ≡ cond b (inf false) nan → T (not (is_nan y)) → y ≡ inf false
    go true e n = e
    go false e n = absurd (unfold is_nan in subst (λ (x : Float). T (not (is_nan x))) e n)

pub normal_value : (y : Float) → T (fits binary32 y) → 8388608 ≤ to_bits binary32 y → to_bits binary32 y < 2139095040 → HasValue y false ((8388608 + to_bits binary32 y % 8388608) * 2 ^ (to_bits binary32 y / 8388608 - 1)) (2 ^ 149)
normal_value y f l h = subst (λ (x : Float). HasValue x false ((8388608 + to_bits binary32 y % 8388608) * 2 ^ (to_bits binary32 y / 8388608 - 1)) (2 ^ 149)) (of_bits-to_bits binary32 y f) (bits_normal (to_bits binary32 y) l h)

pub low_value : (y : Float) → T (fits binary32 y) → to_bits binary32 y < 8388608 → HasValue y false (to_bits binary32 y) (2 ^ 149)
low_value y f h = subst (λ (x : Float). HasValue x false (to_bits binary32 y) (2 ^ 149)) (of_bits-to_bits binary32 y f) (bits_low (to_bits binary32 y) h)

zero_no : lt (of_bits binary32 0) (of_bits binary32 0) ≡ false
unfolding lt of_bits
zero_no = refl

low_pos : (y : Float) → T (fits binary32 y) → lt (of_bits binary32 0) y ≡ true → 0 < to_bits binary32 y
low_pos y f h = go (to_bits binary32 y) (of_bits-to_bits binary32 y f)
  where
    go : (b : ℕ) → of_bits binary32 b ≡ y → 0 < b
    go zero e = absurd (subst T (sym h ∙ ap (lt (of_bits binary32 0)) (sym e) ∙ zero_no) tt)
    go (suc b) e = zero-lt-suc b

times_eq : (p d b : ℕ) → p * 2 ^ 149 ≡ b * d → p * 16777216 * 2 ^ 149 ≡ b * 16777216 * (d * 1)
times_eq p d b v = mul_right_comm p 16777216 (2 ^ 149) ∙ ap (λ (x : ℕ). x * 16777216) v ∙ mul_right_comm b d 16777216 ∙ ap (λ (x : ℕ). b * 16777216 * x) (sym (mul-one d))

-- y * 2 ^ 24, exactly
pub times : (y : Float) (b : ℕ) → b < 8388608 → HasValue y false b (2 ^ 149) → HasValue (mul binary32 y (of_bits binary32 1266679808)) false (b * 2 ^ 24) (2 ^ 149)
unfolding mul of_bits
times nan b h v = absurd v
times (inf s) b h v = absurd v
times (fin true m e) b h v = absurd (subst T v.0 tt)
times (fin false m e) b h v =
    subst (λ (x : Float). HasValue x false (b * 2 ^ 24) (2 ^ 149))
    (sym (round_same binary32 false (m * up e * 16777216) (down e * 1) (b * 2 ^ 24) (2 ^ 149) (mul-pos (down_pos e) (zero-lt-suc 0)) (pow_pos 149) (times_eq (m * up e) (down e) b v.1)))
    (round_exact binary32 false (b * 2 ^ 24) (2 ^ 149) b 24 (pow_pos 149) (let z : b < 2 ^ 24 = omega arith in z) (lt_of_lt_of_le (shl_lt 23 24 h) (pow_mono {i = 47} {j = 277} (lit≤ tt))) refl)

-- a subnormal times 2 ^ 24 is a normal number
abbrev pub scaled : Float → Float
scaled y = mul binary32 y (of_bits binary32 1266679808)

scaled_fits : (y : Float) → T (fits binary32 (scaled y))
scaled_fits y = mul-fits binary32 y (of_bits binary32 1266679808)

-- the digits of a normal number's pattern, and the power of two that its field stands for, in units of 2 ^ -149
abbrev pub normal_units : ℕ → ℕ
normal_units b = (8388608 + b % 8388608) * 2 ^ (b / 8388608 - 1)

pub normal_units_pos : (b : ℕ) → 0 < normal_units b
normal_units_pos b = mul-pos (let z : 0 < 8388608 + b % 8388608 = omega arith in z) (pow_pos (b / 8388608 - 1))

-- ---- the cases of `on_positive`, by the tests y > 0.0, y == 0.0 and by the pattern
none : (a : ℕ) → 0 * a * 2 ^ 149 ≡ 0
none a = ap (λ (x : ℕ). x * 2 ^ 149) (zero-mul a) ∙ zero-mul (2 ^ 149)

pub scaled_pos : (m : ℕ) (e : ℤ) → 0 < suc m * up e * 1
scaled_pos m e = mul-pos (mul-pos (zero-lt-suc m) (up_pos e)) (zero-lt-suc 0)

pub level_zero : (s : Bool) (a b : ℕ) → a ≡ 0 → b ≡ 0 → level s a false b ≡ true
level_zero true a b p q = ap (λ (x : ℕ). level true x false b) p ∙ ap (λ (x : ℕ). level true 0 false x) q
level_zero false a b p q = ap (λ (x : ℕ). level false x false b) p ∙ ap (λ (x : ℕ). level false 0 false x) q

module _ (z : Float) (f : ℕ → Float) where
  pub on_value : (y : Float) (a : ℕ) → 0 < a → HasValue y false a (2 ^ 149) → on_positive z f y ≡ f a
  unfolding on_positive
  on_value nan a A v = absurd v
  on_value (inf s) a A v = absurd v
  on_value (fin true m e) a A v = absurd (subst T v.0 tt)
  on_value (fin false zero e) a A v = absurd (not-le_of_lt (mul-pos A (down_pos e)) (let g : a * down e ≡ 0 = sym v.1 ∙ none (up e) in let w : a * down e ≤ 0 = omega arith in w))
  on_value (fin false (suc n) e) a A v = ap f (ap (λ (x : ℕ). x / down e) v.1 ∙ mul-div_cancel a (down_pos e))

  pub on_normal : (y : Float) → fits binary32 y ≡ true → 8388608 ≤ to_bits binary32 y → to_bits binary32 y < 2139095040 → on_positive z f y ≡ f (normal_units (to_bits binary32 y))
  on_normal y g l h = on_value y (normal_units (to_bits binary32 y)) (normal_units_pos (to_bits binary32 y)) (normal_value y (holds g) l h)

  on_inf : on_positive z f (inf false) ≡ inf false
  unfolding on_positive
  on_inf = refl

  pub on_top : (y : Float) → fits binary32 y ≡ true → lt (of_bits binary32 0) y ≡ true → 2139095040 ≤ to_bits binary32 y → y ≡ on_positive z f y
  on_top y g p h = subst (λ (x : Float). x ≡ on_positive z f x) (sym (at_top y (holds g) p h)) (sym on_inf)

  pub on_zero : (y : Float) → eq y (of_bits binary32 0) ≡ true → on_positive z f y ≡ z
  unfolding eq of_bits on_positive
  on_zero nan h = absurd (holds h)
  on_zero (inf s) h = absurd (holds h)
  on_zero (fin s zero e) h = refl
  on_zero (fin s (suc m) e) h = absurd (lt_irrefl 0 (subst (λ (x : ℕ). 0 < x) (eqb→eq (suc m * up e * 1) (0 * down e) (and_l (eqb (suc m * up e * 1) (0 * down e)) (beq s false || eqb (suc m * up e * 1) 0) (holds h)) ∙ zero-mul (down e)) (scaled_pos m e)))

  -- what code writes for NaN is 0.0 / 0.0
  pub on_other : (y : Float) → lt (of_bits binary32 0) y ≡ false → eq y (of_bits binary32 0) ≡ false → div binary32 (of_bits binary32 0) (of_bits binary32 0) ≡ on_positive z f y
  unfolding lt eq of_bits div on_positive
  on_other nan g h = refl
  on_other (inf true) g h = refl
  on_other (inf false) g h = absurd (subst T g tt)
  on_other (fin s zero e) g h = absurd (subst T (sym (level_zero s (0 * up e * 1) (0 * down e) (ap (λ (x : ℕ). x * 1) (zero-mul (up e))) (zero-mul (down e))) ∙ h) tt)
  on_other (fin true (suc m) e) g h = refl
  on_other (fin false (suc m) e) g h = absurd (not-le_of_lt (scaled_pos m e) (subst (λ (x : ℕ). suc m * up e * 1 ≤ x) (zero-mul (down e)) (ltb-false (0 * down e) (suc m * up e * 1) g)))

-- ---- a positive number that is not normal, by the number 2 ^ 24 times as large
pub record Subnormal (y : Float) : Type 0 where
  pub some : 0 < to_bits binary32 y
  pub no_nan : T (not (is_nan (scaled y)))
  pub normal : 8388608 ≤ to_bits binary32 (scaled y)
  pub below : to_bits binary32 (scaled y) < 2139095040
  pub units : to_bits binary32 y * 2 ^ 24 ≡ normal_units (to_bits binary32 (scaled y))
  pub on : (z : Float) (f : ℕ → Float) → on_positive z f y ≡ f (to_bits binary32 y)

module _ (y : Float) (g : fits binary32 y ≡ true) (p : lt (of_bits binary32 0) y ≡ true) (h : to_bits binary32 y < 8388608) where
  abbrev n : ℕ
  n = to_bits binary32 y

  abbrev b : ℕ
  b = to_bits binary32 (scaled y)

  some_units : 0 < n
  some_units = low_pos y (holds g) p

  scaled_value : HasValue (scaled y) false (n * 2 ^ 24) (2 ^ 149)
  scaled_value = times y n h (low_value y (holds g) h)

  scaled_below : b < 2139095040
  scaled_below = finite_below (scaled y) (n * 2 ^ 24) (2 ^ 149) (scaled_fits y) scaled_value

  scaled_normal : 8388608 ≤ b
  scaled_normal =
      elim (le-or-lt 8388608 b) [
        | inl m ↦ m
        | inr l ↦
            let e : b ≡ n * 2 ^ 24 = value_same (scaled y) false b (n * 2 ^ 24) (2 ^ 149) (low_value (scaled y) (scaled_fits y) l) scaled_value in
            omega (arith, some_units)
      ]

  pub subnormal : Subnormal y
  subnormal =
      record {
        some = some_units;
        no_nan = value_no_nan (scaled y) (n * 2 ^ 24) (2 ^ 149) scaled_value;
        normal = scaled_normal;
        below = scaled_below;
        units = value_same (scaled y) false (n * 2 ^ 24) (normal_units b) (2 ^ 149) scaled_value (normal_value (scaled y) (scaled_fits y) scaled_normal scaled_below);
        on = λ z f. on_value z f y n some_units (low_value y (holds g) h);
      }
