-- What `to_hundredths` answers, by the tests that led there. Assumes nothing.
use Rattle.std.proofs.Common.{◌≡◌, ℕ, ◌*◌, ◌^◌, ◌<◌, ◌≤◌, Bool, true, false, cond, ltb, ℤ, pos, ◌-ℤ◌, sym}
use Rattle.std.proofs.Common.{refl, ap, ◌∙◌, true≢false, mul-one, arith, w64, to_z, of_z}
use Rattle.std.specs.Float.{float_with_sign, is_sign_negative}
use lib.Ieee.{Float, nan, inf, fin, binary32, up, down, lt, of_bits, is_nan}
use Rattle.single.specs.Single.{is_negative, signed}
use Rattle.single.proofs.Integers.{as_i64, negated_i64}
use Rattle.output.specs.Hundredths.{hundredfold, size_of, hundredths_of}
use Rattle.output.specs.declared.rounding.Hundredths.TheVariants.{NotANumber, Over, Whole}

pub no_number : (x : Float) → is_nan x ≡ true → NotANumber ≡ hundredths_of x
unfolding is_nan hundredths_of
no_number nan h = refl
no_number (inf s) h = absurd (true≢false (sym h))
no_number (fin s m e) h = absurd (true≢false (sym h))

pub plain : (x : Float) → is_negative (float_with_sign false x) ≡ false
unfolding float_with_sign
plain nan = refl
plain (inf s) = refl
plain (fin s m e) = refl

by_size : (s : Bool) (m : ℕ) (e : ℤ) (b : Bool) → ltb (m * up e * 1) (1 * 2 ^ 56 * down e) ≡ b
    → cond b (Whole (signed s (hundredfold m e))) Over ≡ hundredths_of (fin s m e)
unfolding hundredths_of
by_size s m e b h =
    let z : b ≡ ltb (m * up e) (2 ^ 56 * down e) = sym h ∙ ap (λ (n : ℕ). ltb n (2 ^ 56 * down e)) (mul-one (m * up e)) in
    ap (λ (t : Bool). cond t (Whole (signed s (hundredfold m e))) Over) z

-- b: the magnitude is below 2 ^ 56
by_magnitude : (x : Float) (b : Bool) → is_nan x ≡ false → lt (float_with_sign false x) (of_bits binary32 0x5b800000) ≡ b
    → cond b (Whole (signed (is_sign_negative x) (size_of (float_with_sign false x)))) Over ≡ hundredths_of x
unfolding lt of_bits is_nan float_with_sign is_sign_negative size_of hundredths_of
by_magnitude nan b p h = absurd (true≢false p)
by_magnitude (inf s) b p h = ap (λ (t : Bool). cond t (Whole (signed s 0)) Over) (sym h)
by_magnitude (fin s m e) b p h = by_size s m e b h

pub over : (x : Float) → is_nan x ≡ false → lt (float_with_sign false x) (of_bits binary32 0x5b800000) ≡ false → Over ≡ hundredths_of x
over x = by_magnitude x false

whole : (x : Float) (r : ℕ) → is_nan x ≡ false → lt (float_with_sign false x) (of_bits binary32 0x5b800000) ≡ true
    → r ≡ size_of (float_with_sign false x) → Whole (signed (is_sign_negative x) r) ≡ hundredths_of x
whole x r p h e = ap (λ (n : ℕ). Whole (signed (is_sign_negative x) n)) e ∙ by_magnitude x true p h

below_i64 : (n : ℕ) → n ≤ 100 * 2 ^ 56 → n < 2 ^ 63
below_i64 n h = omega arith

pub plus : (x : Float) (r : ℕ) → is_nan x ≡ false → lt (float_with_sign false x) (of_bits binary32 0x5b800000) ≡ true
    → r ≡ size_of (float_with_sign false x) → r ≤ 100 * 2 ^ 56 → is_sign_negative x ≡ false → Whole (to_z w64 r) ≡ hundredths_of x
plus x r p h e l t = ap Whole (as_i64 r (below_i64 r l)) ∙ ap (λ (s : Bool). Whole (signed s r)) (sym t) ∙ whole x r p h e

pub minus : (x : Float) (r : ℕ) → is_nan x ≡ false → lt (float_with_sign false x) (of_bits binary32 0x5b800000) ≡ true
    → r ≡ size_of (float_with_sign false x) → r ≤ 100 * 2 ^ 56 → is_sign_negative x ≡ true
    → Whole (to_z w64 (of_z w64 (pos 0 -ℤ to_z w64 r))) ≡ hundredths_of x
minus x r p h e l t = ap Whole (negated_i64 r (below_i64 r l)) ∙ ap (λ (s : Bool). Whole (signed s r)) (sym t) ∙ whole x r p h e

pub ruleset tests = (no_number, plain, over, plus, minus)
