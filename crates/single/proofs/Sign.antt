-- Signs and NaNs of f32s and of their patterns. Assumes nothing.
use mathlib.Core.Path.{◌≡◌, refl, sym, ap, subst, ◌∙◌}
use mathlib.Core.Bool.{Bool, true, false, not, cond}
use Prim.Native.Nat.{ℕ, zero, suc, ◌+◌, ◌*◌, ◌%◌, ◌/◌, ◌<◌, ◌≤◌}
use native.Mathlib.Omega.{arith}
use lib.Arith.{le→nltb}
use lib.Dec.{T, leb, eqb}
use lib.Ieee.{Float, Format, nan, inf, fin, binary32, top, ones, hid, nan_bits, odd, of_fields, of_bits, to_bits, fits, is_nan, eq}
use lib.Ieee.Bits.{of_bits-to_bits, nan_bits_above}
use Rattle.single.proofs.Booleans.{holds}
use Rattle.single.specs.Single.{is_negative}

pub odd_sign : (d : ℕ) (s : Bool) (q k l : ℕ) → is_negative (odd d s q k l) ≡ s
unfolding odd
odd_sign d s zero k l = refl
odd_sign d s (suc q) k l = refl

fields_sign : (s : Bool) (x t : ℕ) → T (not (is_nan (of_fields binary32 s x t))) → is_negative (of_fields binary32 s x t) ≡ s
unfolding of_fields
fields_sign s zero t h = odd_sign 24 s t 0 149
fields_sign s (suc x) t h = go (eqb (suc x) 255) (eqb t 0) h
  where
    go : (p q : Bool) → T (not (is_nan (cond p (cond q (inf s) nan) (odd 24 s (8388608 + t) x 149)))) → is_negative (cond p (cond q (inf s) nan) (odd 24 s (8388608 + t) x 149)) ≡ s
    go true true n = refl
    go true false n = absurd (unfold is_nan in n)
    go false q n = odd_sign 24 s (8388608 + t) x 149

bits_sign : (b : ℕ) → T (not (is_nan (of_bits binary32 b))) → leb 2147483648 b ≡ is_negative (of_bits binary32 b)
unfolding of_bits
bits_sign b h = sym (fields_sign (leb 2147483648 b) (b % 2147483648 / 8388608) (b % 8388608) h)

pub sign_bit : (v : Float) → T (fits binary32 v) → T (not (is_nan v)) → leb 2147483648 (to_bits binary32 v) ≡ is_negative v
sign_bit v f n = bits_sign (to_bits binary32 v) (subst (λ (w : Float). T (not (is_nan w))) (sym (of_bits-to_bits binary32 v f)) n) ∙ ap is_negative (of_bits-to_bits binary32 v f)

-- x == x: no NaN. Otherwise NaN
pub no_nan : (x : Float) → eq x x ≡ true → T (not (is_nan x))
unfolding eq is_nan
no_nan nan h = holds h
no_nan (inf s) h = tt
no_nan (fin s m e) h = tt

-- a pattern that is no NaN's, whatever its sign
pub bits_no_nan : (f : Format) (n : ℕ) → n % top f ≤ ones f * hid f → T (not (nan_bits f n))
bits_no_nan f n h = subst (λ (b : Bool). T (not b)) (sym (nan_bits_above f n)) (le→nltb (ones f * hid f) (n % top f) h)

-- a finite number's pattern with the sign plus
pub finite_bits : (n : ℕ) → n < 2139095040 → T (not (nan_bits binary32 n))
finite_bits n h = bits_no_nan binary32 n (omega arith)
