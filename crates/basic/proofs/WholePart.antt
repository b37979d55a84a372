-- The whole part of a number's magnitude, from its pattern; its sign and float. Assumes nothing.
use Rattle.std.proofs.Common.{◌≡◌, ℕ, zero, suc, ◌+◌, ◌-◌, ◌*◌, ◌/◌, ◌%◌, ◌^◌, ◌<◌, ◌≤◌, min, Bool, true, false, cond, not, T, eqb, ltb, leb, pos, neg_ℤ, sym, refl, ap, ◌∙◌, subst, le_trans, le_refl, lt_of_lt_of_le, le_of_suc-le-suc, lt_of_le_of_lt, mul_assoc, suc-mul, div-lt_iff_lt-mul, mul-le-mul, lt_of_not-le, zero-mul, mul_right_comm, not-le_of_lt, le_of_mul-le-mul_right, arith, lit<, lit≤, le→leb, lt→ltb, leb→le, pow_pos, pow_mono, pow-add, ltb-false, le-ltb}
use native.Mathlib.Nat.{div-eq_of_lt, min-eq_left}
use lib.Dec.{nleb→lt}
use lib.Ieee.{Float, nan, inf, fin, binary32, up, down, lt, of_bits, to_signed, in_float}
use lib.Ieee.Exact.{HasValue}
use lib.Ieee.Fits.{down_pos}
use lib.Ieee.Nearest.{div_same}
use Rattle.single.specs.Single.{signed}
use Rattle.single.proofs.Value.{bits_normal, bits_low, bits_top}
use Rattle.single.proofs.Magnitude.{Mag}
use Rattle.basic.specs.Basic.{absolute, cut_toward}
use Rattle.basic.specs.WholePart.{whole_part}

pub absolute_mag : (x : Float) (k : ℕ) → Mag k x → Mag k (absolute x)
unfolding absolute
absolute_mag nan k m = m
absolute_mag (inf s) k m = m
absolute_mag (fin s n e) k m = m

pub absolute_whole : (x : Float) → whole_part (absolute x) ≡ whole_part x
unfolding absolute
absolute_whole nan = refl
absolute_whole (inf s) = refl
absolute_whole (fin s n e) = refl

whole_value : (u : Float) (s : Bool) (a c : ℕ) → 0 < c → HasValue u s a c → whole_part u ≡ a / c
whole_value nan s a c C v = absurd v
whole_value (inf t) s a c C v = absurd v
whole_value (fin t m e) s a c C v = div_same (m * up e) (down e) a c (down_pos e) C v.1

mag_value : (u : Float) (s : Bool) (k a c : ℕ) → Mag k u → HasValue u s a c → a ≤ k * c
mag_value nan s k a c m v = absurd m
mag_value (inf t) s k a c m v = absurd m
mag_value (fin t n e) s k a c m v =
    le_of_mul-le-mul_right {k = down e}
    (subst (λ (x : ℕ). x ≤ k * c * down e) v.1 (subst (λ (x : ℕ). n * up e * c ≤ x) (mul_right_comm k (down e) c) (mul-le-mul m (le_refl c))))
    (down_pos e)

pub whole_below : (u : Float) (k : ℕ) → Mag k u → whole_part u ≤ k
whole_below nan k m = absurd m
whole_below (inf t) k m = absurd m
whole_below (fin t n e) k m = le_of_suc-le-suc ((div-lt_iff_lt-mul {k = down e} {x = n * up e} {y = suc k} (down_pos e)).1 (let d : 0 < down e = down_pos e in let g : suc k * down e ≡ k * down e + down e = suc-mul k (down e) in omega arith))

no_mag : (k : ℕ) (b : Bool) → Mag k (cond b (inf false) nan) → ⊥
no_mag k true m = m
no_mag k false m = m

-- u has the pattern b, with the sign plus, and is at most 2 ^ 21
module _ (u : Float) (b : ℕ) (B : b < 2147483648) (is : of_bits binary32 b ≡ u) (m : Mag (2 ^ 21) u) where
  abbrev E : ℕ
  E = b / 8388608

  abbrev Q : ℕ
  Q = 8388608 + b % 8388608

  finite : b < 2139095040
  finite = lt_of_not-le (λ (g : 2139095040 ≤ b). no_mag (2 ^ 21) (eqb (b % 8388608) 0) (subst (Mag (2 ^ 21)) (sym is ∙ bits_top b g B) m))

  normal : 8388608 ≤ b → HasValue u false (Q * 2 ^ (E - 1)) (2 ^ 149)
  normal h = subst (λ (x : Float). HasValue x false (Q * 2 ^ (E - 1)) (2 ^ 149)) is (bits_normal b h finite)

  low : b < 8388608 → HasValue u false b (2 ^ 149)
  low h = subst (λ (x : Float). HasValue x false b (2 ^ 149)) is (bits_low b h)

  pub field_below : E ≤ 150
  field_below = le_of_suc-le-suc (lt_of_not-le (λ (g : 151 ≤ E). not-le_of_lt (too_large g) (mag_value u false (2 ^ 21) (Q * 2 ^ (E - 1)) (2 ^ 149) m (normal (omega arith)))))
    where
      too_large : 151 ≤ E → 2 ^ 21 * 2 ^ 149 < Q * 2 ^ (E - 1)
      too_large g =
          let p : 2 ^ 150 ≤ 2 ^ (E - 1) = pow_mono {i = 150} {j = E - 1} (omega arith) in
          let l : 8388608 * 2 ^ 150 ≤ Q * 2 ^ (E - 1) = mul-le-mul (let z : 8388608 ≤ Q = omega arith in z) p in
          lt_of_lt_of_le (let z : 2 ^ 21 * 2 ^ 149 < 8388608 * 2 ^ 150 = lit< tt in z) l

  pub whole_none : E < 127 → 0 ≡ whole_part u
  whole_none h = go (leb 8388608 b) (leb→le 8388608 b) (nleb→lt 8388608 b)
    where
      go : (t : Bool) → (T t → 8388608 ≤ b) → (T (not t) → b < 8388608) → 0 ≡ whole_part u
      go true f g =
          let p : 2 ^ (E - 1) ≤ 2 ^ 125 = pow_mono {i = E - 1} {j = 125} (omega arith) in
          let l : Q * 2 ^ (E - 1) ≤ 16777215 * 2 ^ 125 = mul-le-mul (let z : Q ≤ 16777215 = omega arith in z) p in
          sym (whole_value u false (Q * 2 ^ (E - 1)) (2 ^ 149) (pow_pos 149) (normal (f tt)) ∙ div-eq_of_lt (lt_of_le_of_lt l (lit< tt)))
      go false f g = sym (whole_value u false b (2 ^ 149) (pow_pos 149) (low (g tt)) ∙ div-eq_of_lt (lt_of_lt_of_le (g tt) (lit≤ tt)))

  pub whole_digits : 127 ≤ E → Q / 2 ^ (150 - E) ≡ whole_part u
  whole_digits h =
      sym (whole_value u false (Q * 2 ^ (E - 1)) (2 ^ 149) (pow_pos 149) (normal (omega arith))
      ∙ div_same (Q * 2 ^ (E - 1)) (2 ^ 149) Q (2 ^ (150 - E)) (pow_pos 149) (pow_pos (150 - E))
      (mul_assoc Q (2 ^ (E - 1)) (2 ^ (150 - E)) ∙ ap (λ (x : ℕ). Q * x) (sym (pow-add 2 (E - 1) (150 - E)) ∙ ap (λ (x : ℕ). 2 ^ x) (let k : E ≤ 150 = field_below in let z : E - 1 + (150 - E) ≡ 149 = omega arith in z))))

-- ---- n, of a small number
minus_zero : (b : Bool) (w : ℕ) → (b ≡ false → w ≡ 0) → neg_ℤ (pos w) ≡ signed b w
minus_zero true w h = refl
minus_zero false w h = subst (λ (x : ℕ). neg_ℤ (pos x) ≡ pos x) (sym (h refl)) refl

negative : (a d : ℕ) → 0 < d → neg_ℤ (pos (a / d)) ≡ signed (ltb 0 (a * 1 + 0 * d)) (a / d)
negative a d D = minus_zero (ltb 0 (a * 1 + 0 * d)) (a / d) (λ q. div-eq_of_lt (let z : a * 1 + 0 * d ≤ 0 = ltb-false 0 (a * 1 + 0 * d) q in let y : a ≡ 0 = omega arith in omega arith))

pub cut_parts : (t : Float) → Mag (2 ^ 21) t → cut_toward t ≡ signed (lt t (of_bits binary32 0)) (whole_part t)
unfolding cut_toward to_signed of_bits lt
cut_parts nan m = absurd m
cut_parts (inf s) m = absurd m
cut_parts (fin false n e) m =
    let w : n * up e / down e ≤ 2097152 = whole_below (fin false n e) (2 ^ 21) m in
    simp (le-ltb (n * up e * 1) (0 * down e) (let z : 0 * down e ≡ 0 = zero-mul (down e) in omega arith)) (ap pos (min-eq_left (le_trans w (lit≤ tt))))
cut_parts (fin true n e) m =
    let w : n * up e / down e ≤ 2097152 = whole_below (fin true n e) (2 ^ 21) m in
    ap (λ (k : ℕ). neg_ℤ (pos k)) (min-eq_left (le_trans w (lit≤ tt))) ∙ negative (n * up e) (down e) (down_pos e)

-- ---- n as a float
pub signed_float : (s : Bool) (k : ℕ) → k ≤ 2 ^ 21 → T (in_float binary32 (signed s k))
unfolding in_float
signed_float true zero h = tt
signed_float true (suc k) h = lt→ltb k (2 ^ 24) (omega arith)
signed_float false k h = le→leb k (2 ^ 24) (omega arith)
