-- Absolute values: the library's word, the sign's two cases and the pattern. Assumes nothing.
use Rattle.std.proofs.Common.{◌≡◌, ℕ, zero, suc, ◌+◌, ◌/◌, ◌%◌, ◌<◌, Bool, true, false, cond, T, eqb, leb, sym, refl, ap, ◌∙◌, subst, arith}
use Rattle.std.specs.Float.{float_with_sign}
use lib.Ieee.{Float, nan, inf, fin, binary32, odd, neg, of_bits, of_fields}
use Rattle.single.proofs.Booleans.{holds}
use Rattle.single.specs.Single.{is_negative}
use Rattle.single.proofs.Value.{plain, of_bits_is}
use Rattle.basic.specs.Basic.{absolute}

-- ---- absolute values
pub absolute_minus : (x : Float) → is_negative x ≡ true → absolute x ≡ neg x
unfolding absolute neg
absolute_minus nan h = refl
absolute_minus (inf true) h = refl
absolute_minus (inf false) h = absurd (holds h)
absolute_minus (fin true m e) h = refl
absolute_minus (fin false m e) h = absurd (holds h)

pub absolute_plus : (x : Float) → is_negative x ≡ false → absolute x ≡ x
unfolding absolute
absolute_plus nan h = refl
absolute_plus (inf true) h = absurd (subst T h tt)
absolute_plus (inf false) h = refl
absolute_plus (fin true m e) h = absurd (subst T h tt)
absolute_plus (fin false m e) h = refl

-- the library's word for it
pub without_sign : (x : Float) → float_with_sign false x ≡ absolute x
unfolding float_with_sign absolute
without_sign nan = refl
without_sign (inf s) = refl
without_sign (fin s m e) = refl

-- the pattern without its highest bit
odd_absolute : (d : ℕ) (s : Bool) (q k l : ℕ) → odd d false q k l ≡ absolute (odd d s q k l)
unfolding odd absolute
odd_absolute d s zero k l = refl
odd_absolute d s (suc q) k l = refl

fields_absolute : (s : Bool) (x t : ℕ) → of_fields binary32 false x t ≡ absolute (of_fields binary32 s x t)
unfolding of_fields
fields_absolute s zero t = odd_absolute 24 s t 0 149
fields_absolute s (suc x) t = go (eqb (suc x) 255) (eqb t 0)
  where
    go : (p q : Bool) → cond p (cond q (inf false) nan) (odd 24 false (8388608 + t) x 149) ≡ absolute (cond p (cond q (inf s) nan) (odd 24 s (8388608 + t) x 149))
    go true true = unfold absolute in refl
    go true false = unfold absolute in refl
    go false q = odd_absolute 24 s (8388608 + t) x 149

pub bits_absolute : (b : ℕ) → of_bits binary32 (b % 2147483648) ≡ absolute (of_bits binary32 b)
bits_absolute b =
    let l : b % 2147483648 < 2147483648 = omega arith in
    let e : b % 2147483648 % 8388608 ≡ b % 8388608 = omega arith in
    plain (b % 2147483648) l
    ∙ ap (of_fields binary32 false (b % 2147483648 / 8388608)) e
    ∙ fields_absolute (leb 2147483648 b) (b % 2147483648 / 8388608) (b % 8388608)
    ∙ ap absolute (sym (of_bits_is b))
