-- Signed integers as the machine has them: `to_z w (of_z w z)` is how it reads z back, which is z where z fits. Assumes nothing.
use mathlib.Core.Path.{◌≡◌, refl, sym, ap, ◌∙◌, subst}
use mathlib.Core.Bool.{Bool, true, false, false≢true}
use Prim.Native.Nat.{ℕ, zero, suc, ◌+◌, ◌^◌, ◌≤◌, ◌<◌}
use native.Mathlib.Nat.{le_of_lt, lt_of_lt_of_le, lt-suc_self}
use native.Mathlib.Omega.{arith}
use lib.IntN.{ℤ, pos, negsuc, neg_ℤ, ◌-ℤ◌, nat_abs, +ℤ_idl, pos-ne-negsuc}
use lib.Signed.{le_z, non_neg}
use lib.Dec.{T}
use mir.Syntax.{Width, w64}
use mir.Val.{Fits, SFits, bits, hbits, to_z, of_z}
use mir.ValLaws.{to_z-of_z}
use Rattle.single.specs.Single.{signed}

abbrev pub back : Width → ℤ → ℤ
back w z = to_z w (of_z w z)

-- what the test `z >= 0` tells
pub is_plus : (w : Width) (z : ℤ) → SFits w z → le_z (pos 0) (back w z) ≡ true → z ≡ pos (nat_abs z)
is_plus w (pos a) F t = refl
is_plus w (negsuc a) F t = absurd (false≢true (subst (λ (y : ℤ). le_z (pos 0) y ≡ true) (to_z-of_z w (negsuc a) F) t))

-- z is not negative: it can be cast, and is its own magnitude
abbrev pub Plain : Width → ℤ → Type 0
Plain w z = (T (non_neg (back w z)) × Fits w (nat_abs (back w z))) × (nat_abs (back w z) ≡ nat_abs z)

pub once : (a h b : ℕ) → h + h ≤ b → a < h → a < b
once a h b p q = omega arith

pub plain : (w : Width) (z : ℤ) → 2 ^ hbits w + 2 ^ hbits w ≤ 2 ^ bits w → SFits w z → le_z (pos 0) (back w z) ≡ true → Plain w z
plain w (pos a) B F t =
    subst (λ (y : ℤ). (T (non_neg y) × Fits w (nat_abs y)) × (nat_abs y ≡ a)) (sym (to_z-of_z w (pos a) F))
    ((tt, record { fits = once a (2 ^ hbits w) (2 ^ bits w) B F.sfits }), refl)
plain w (negsuc a) B F t = absurd (pos-ne-negsuc (suc a) a (sym (is_plus w (negsuc a) F t)))

-- ---- by its magnitude
pub within : (w : Width) (z : ℤ) → nat_abs z < 2 ^ hbits w → SFits w z
within w (pos n) h = record { sfits = h }
within w (negsuc n) h = record { sfits = lt_of_lt_of_le (lt-suc_self n) (le_of_lt h) }

negative_size : (n : ℕ) → nat_abs (neg_ℤ (pos n)) ≡ n
negative_size zero = refl
negative_size (suc n) = refl

pub signed-size : (s : Bool) (n : ℕ) → nat_abs (signed s n) ≡ n
signed-size true n = negative_size n
signed-size false n = refl

-- ---- n as i64, and 0 - n as i64
module _ (n : ℕ) (h : n < 2 ^ 63) where
  pub as_i64_fits : SFits w64 (pos n)
  as_i64_fits = within w64 (pos n) h

  pub as_i64 : to_z w64 n ≡ pos n
  as_i64 = to_z-of_z w64 (pos n) as_i64_fits

  pub negated : pos 0 -ℤ to_z w64 n ≡ neg_ℤ (pos n)
  negated = ap (λ (z : ℤ). pos 0 -ℤ z) as_i64 ∙ +ℤ_idl (neg_ℤ (pos n))

  negative_fits : SFits w64 (neg_ℤ (pos n))
  negative_fits = within w64 (neg_ℤ (pos n)) (subst (λ (x : ℕ). x < 2 ^ 63) (sym (negative_size n)) h)

  pub negated_fits : SFits w64 (pos 0 -ℤ to_z w64 n)
  negated_fits = subst (λ (z : ℤ). SFits w64 z) (sym negated) negative_fits

  pub negated_i64 : back w64 (pos 0 -ℤ to_z w64 n) ≡ neg_ℤ (pos n)
  negated_i64 = ap (back w64) negated ∙ to_z-of_z w64 (neg_ℤ (pos n)) negative_fits
