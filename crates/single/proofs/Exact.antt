-- A finite f32 as a whole number of units of 2 ^ -149, with no digit lost; it rounds to itself, and 0 - x is exact. Assumes nothing.
use mathlib.Core.Path.{◌≡◌, refl, sym, ap, subst, ◌∙◌}
use mathlib.Core.Bool.{Bool, true, false, ◌&&◌}
use Prim.Native.Nat.{ℕ, zero, suc, ◌+◌, ◌-◌, ◌*◌, ◌/◌, ◌%◌, ◌^◌, ◌≤◌, ◌<◌}
use native.Mathlib.Omega.{arith}
use native.Mathlib.Nat.{lt_irrefl, mul-one, zero-mul, mul_assoc, mul-pos, div-one}
use native.Mathlib.Nat.{mul-div_cancel, not-le_of_lt, lt_of_not-le, le_of_suc-le-suc, lt_of_mul-lt-mul_right, mul-lt-mul_of_pos_right, mul_right_comm}
use lib.Dec.{T, leb, ltb, eqb, leb→le, ltb→lt}
use lib.IntN.{ℤ, pos, negsuc}
use lib.Pow.{pow_pos, pow-add, pow-lt}
use lib.Ieee.{Float, nan, inf, fin, binary32, round, fits, up, down}
use lib.Ieee.Exact.{HasValue}
use lib.Ieee.Fits.{and_l, and_r, down_pos}
use lib.Ieee.Scale.{round_same}
use Rattle.single.specs.Single.{units_of}
use Rattle.single.proofs.Value.{round_to}

both : (a b : Bool) → T (a && b) → T a × T b
both a b t = (and_l a b t, and_r a b t)

-- the tests of `fits` on a number above 0
module _ (s : Bool) (n : ℕ) (d : ℤ) (t : T (fits binary32 (fin s (suc n) d))) where
  tests : T (eqb (suc n % 2) 1 && ltb (suc n) (2 ^ 24)) × T (leb (down d) (2 ^ 149)) × T (ltb (suc n * up d) (2 ^ 128 * down d))
  unfolding fits
  tests =
      let digits = eqb (suc n % 2) 1 && ltb (suc n) (2 ^ 24) in
      let p = both (digits && leb (down d) (2 ^ 149)) (ltb (suc n * up d) (2 ^ 128 * down d)) t in
      let q = both digits (leb (down d) (2 ^ 149)) p.0 in
      (q.0, q.1, p.1)

  pub digits_small : suc n < 2 ^ 24
  digits_small = ltb→lt (suc n) (2 ^ 24) (and_r (eqb (suc n % 2) 1) (ltb (suc n) (2 ^ 24)) tests.0)

  down_small : down d ≤ 2 ^ 149
  down_small = leb→le (down d) (2 ^ 149) tests.1

  value_small : suc n * up d < 2 ^ 128 * down d
  value_small = ltb→lt (suc n * up d) (2 ^ 128 * down d) tests.2

-- its units are its digits times a power of two, and are its value
pub whole : (s : Bool) (n : ℕ) (d : ℤ) → T (fits binary32 (fin s (suc n) d)) → (i : ℕ) × (units_of (suc n) d ≡ suc n * 2 ^ i) × (suc n * up d * 2 ^ 149 ≡ units_of (suc n) d * down d)
whole s n (pos a) t =
    let e : suc n * 2 ^ a * 2 ^ 149 ≡ suc n * 2 ^ (a + 149) = mul_assoc (suc n) (2 ^ a) (2 ^ 149) ∙ ap (λ (x : ℕ). suc n * x) (sym (pow-add 2 a 149)) in
    (a + 149, div-one (suc n * 2 ^ a * 2 ^ 149) ∙ e, sym (mul-one (units_of (suc n) (pos a)) ∙ div-one (suc n * 2 ^ a * 2 ^ 149)))
whole s n (negsuc a) t =
    let l : suc a ≤ 149 = le_of_suc-le-suc (lt_of_not-le (λ (g : 150 ≤ suc a). not-le_of_lt (pow-lt {i = 149} {j = suc a} g) (down_small s n (negsuc a) t))) in
    let i = 149 - suc a in
    let e : suc n * 1 * 2 ^ 149 ≡ suc n * 2 ^ i * 2 ^ suc a =
    ap (λ (x : ℕ). x * 2 ^ 149) (mul-one (suc n)) ∙ ap (λ (x : ℕ). suc n * 2 ^ x) (let z : 149 ≡ i + suc a = omega arith in z) ∙ ap (λ (x : ℕ). suc n * x) (pow-add 2 i (suc a)) ∙ sym (mul_assoc (suc n) (2 ^ i) (2 ^ suc a)) in
    let u : units_of (suc n) (negsuc a) ≡ suc n * 2 ^ i = ap (λ (x : ℕ). x / 2 ^ suc a) e ∙ mul-div_cancel (suc n * 2 ^ i) (pow_pos (suc a)) in
    (i, u, e ∙ ap (λ (x : ℕ). x * 2 ^ suc a) (sym u))

module _ (s : Bool) (n : ℕ) (d : ℤ) (t : T (fits binary32 (fin s (suc n) d))) where
  pub own_units : HasValue (fin s (suc n) d) s (units_of (suc n) d) (2 ^ 149)
  own_units = (refl, (whole s n d t).2)

  units_small : units_of (suc n) d < 2 ^ 277
  units_small =
      let l : suc n * up d * 2 ^ 149 < 2 ^ 128 * down d * 2 ^ 149 = mul-lt-mul_of_pos_right (value_small s n d t) (pow_pos 149) in
      let r : 2 ^ 128 * down d * 2 ^ 149 ≡ 2 ^ 277 * down d = mul_right_comm (2 ^ 128) (down d) (2 ^ 149) in
      lt_of_mul-lt-mul_right (down d) (subst (λ (x : ℕ). units_of (suc n) d * down d < x) r (subst (λ (x : ℕ). x < 2 ^ 128 * down d * 2 ^ 149) (whole s n d t).2 l))

  -- it rounds to itself
  pub round_own : round binary32 s (suc n * up d) (down d) ≡ fin s (suc n) d
  round_own =
      let w = whole s n d t in
      round_to (fin s (suc n) d) s (suc n * up d) (down d) (suc n) w.0 t (refl, refl) (down_pos d) (digits_small s n d t)
      (subst (λ (x : ℕ). x < 2 ^ 277) w.1 units_small)
      (w.2 ∙ ap (λ (x : ℕ). x * down d) w.1)

-- a fraction that is the value of an f32 above 0 rounds to it
pub round_value : (x : Float) (a c : ℕ) → T (fits binary32 x) → 0 < a → 0 < c → HasValue x false a c → round binary32 false a c ≡ x
round_value nan a c f A C v = absurd v
round_value (inf s) a c f A C v = absurd v
round_value (fin true m e) a c f A C v = absurd (subst T v.0 tt)
round_value (fin false zero e) a c f A C v = absurd (lt_irrefl 0 (subst (λ (x : ℕ). 0 < x) (sym v.1 ∙ ap (λ (x : ℕ). x * c) (zero-mul (up e)) ∙ zero-mul c) (mul-pos A (down_pos e))))
round_value (fin false (suc m) e) a c f A C v = round_same binary32 false a c (suc m * up e) (down e) C (down_pos e) (sym v.1) ∙ round_own false m e f

-- ---- 0 - x
