-- Quotients stay finite where the divisor is large enough. Assumes nothing.
use mathlib.Core.Path.{◌≡◌, refl, sym, ap, subst, ◌∙◌}
use mathlib.Core.Bool.{Bool, true, false, cond}
use Prim.Native.Nat.{ℕ, zero, suc, ◌+◌, ◌*◌, ◌^◌, ◌≤◌, ◌<◌}
use native.Mathlib.Omega.{arith}
use native.Mathlib.Nat.{mul-one, zero-mul, mul_assoc, mul_right_comm, mul-pos, mul-le-mul}
use native.Mathlib.Nat.{le_refl, le_trans, le_of_eq, zero-lt-suc, lt_of_lt_of_le, not-le_of_lt}
use borrow.Author.Tests.{ne_eqb}
use lib.Dec.{T, ltb, lit≤}
use lib.IntN.{pos}
use lib.Pow.{pow_pos}
use lib.Ieee.{Float, nan, inf, fin, binary32, up, down, round, unlike, neg, div, lt, le, eq, odd, units}
use lib.Ieee.Fits.{down_pos, up_pos, round_is}
use lib.Ieee.Order.{round_mono}
use Rattle.single.specs.Single.{is_negative}
use Rattle.single.proofs.Magnitude.{Mag, Pow, or-le, round_mag}
use Rattle.single.proofs.Sign.{odd_sign}
use Rattle.single.proofs.Value.{round_neg}

-- x is no NaN, and at least b in magnitude
abbrev pub AtLeast : ℕ → Float → Type 0
AtLeast b nan = ⊥
AtLeast b (inf s) = Unit
AtLeast b (fin s m e) = b * down e ≤ m * up e

-- p / e is at most a, q / d at least b, so p / e over q / d is at most k
over : (p q d e a b k : ℕ) → p ≤ a * e → b * d ≤ q → a ≤ k * b → p * d ≤ k * (q * e)
over p q d e a b k f g h =
    le_trans (mul-le-mul f (le_refl d))
    (le_trans (mul-le-mul (mul-le-mul h (le_refl e)) (le_refl d))
    (le_trans (le_of_eq (mul_right_comm (k * b) e d ∙ ap (λ (x : ℕ). x * e) (mul_assoc k b d) ∙ mul_assoc k (b * d) e)) (mul-le-mul (le_refl k) (mul-le-mul g (le_refl e)))))

no_suc : (n : ℕ) → suc n ≡ 0 → ⊥
no_suc n h = omega arith

-- a finite number over one that is at least b, b above 0
pub div_mag : (x y : Float) (a b k : ℕ) → Pow k → 0 < b → Mag a x → AtLeast b y → a ≤ 2 ^ k * b → Mag (2 ^ k) (div binary32 x y)
unfolding div
div_mag nan y a b k p B f g h = absurd f
div_mag (inf s) y a b k p B f g h = absurd f
div_mag (fin s m e) nan a b k p B f g h = absurd g
div_mag (fin s m e) (inf t) a b k p B f g h = subst (λ (x : ℕ). x ≤ 2 ^ k * 1) (sym (zero-mul 1)) (omega arith)
div_mag (fin s m e) (fin t zero d) a b k p B f g h = absurd (not-le_of_lt (mul-pos B (down_pos d)) (subst (λ (x : ℕ). b * down d ≤ x) (zero-mul (up d)) g))
div_mag (fin s m e) (fin t (suc n) d) a b k p B f g h =
    simp (ne_eqb (suc n) 0 (no_suc n))
    (round_mag (unlike s t) (m * up e * down d) (suc n * up d * down e) k p (mul-pos (mul-pos (zero-lt-suc n) (up_pos d)) (down_pos e)) (over (m * up e) (suc n * up d) (down d) (down e) a b (2 ^ k) f g h))

-- ---- at least how large
least_neg : (x : Float) (b : ℕ) → AtLeast b x → AtLeast b (neg x)
unfolding neg
least_neg nan b h = h
least_neg (inf s) b h = h
least_neg (fin s m e) b h = h

least_le : (z : Float) (k : ℕ) → is_negative z ≡ false → T (le (fin false 1 (pos k)) z) → AtLeast (2 ^ k) z
unfolding le lt eq
least_le nan k s h = absurd h
least_le (inf t) k s h = tt
least_le (fin true m e) k s h = absurd (subst T s tt)
least_le (fin false m e) k s h = let l : 1 * 2 ^ k * down e ≤ m * up e * 1 = or-le (1 * 2 ^ k * down e) (m * up e * 1) h in omega arith

pub round_sign : (s : Bool) (a b : ℕ) → is_negative (round binary32 s a b) ≡ s
round_sign s a b = ap is_negative (round_is binary32 s a b) ∙ units_minus _ _
  where
    units_minus : (q k : ℕ) → is_negative (units binary32 s q k) ≡ s
    units_minus q k = unfold units in go (ltb (q * 2 ^ k) (2 ^ (149 + 128)))
      where
        go : (t : Bool) → is_negative (cond t (odd 25 s q k 149) (inf s)) ≡ s
        go true = odd_sign 25 s q k 149
        go false = refl

least_plus : (a b k : ℕ) → Pow k → 0 < b → 2 ^ k * b ≤ a → AtLeast (2 ^ k) (round binary32 false a b)
least_plus a b k p B h =
    least_le (round binary32 false a b) k (round_sign false a b) (subst (λ (y : Float). T (le y (round binary32 false a b))) p (round_mono binary32 (2 ^ k) 1 a b (lit≤ tt) B (subst (λ (x : ℕ). 2 ^ k * b ≤ x) (sym (mul-one a)) h)))

round_least : (s : Bool) (a b k : ℕ) → Pow k → 0 < b → 2 ^ k * b ≤ a → AtLeast (2 ^ k) (round binary32 s a b)
round_least false a b k p B h = least_plus a b k p B h
round_least true a b k p B h = subst (AtLeast (2 ^ k)) (round_neg false a b) (least_neg (round binary32 false a b) (2 ^ k) (least_plus a b k p B h))

-- p / d is at most b, q / e at least a, so q / e over p / d is at least k
under : (p q d e a b k : ℕ) → p ≤ b * d → a * e ≤ q → k * b ≤ a → k * (p * e) ≤ q * d
under p q d e a b k f g h =
    le_trans (mul-le-mul (le_refl k) (mul-le-mul f (le_refl e)))
    (le_trans (le_of_eq (sym (mul_assoc k (b * d) e) ∙ ap (λ (x : ℕ). x * e) (sym (mul_assoc k b d)) ∙ mul_right_comm (k * b) d e))
    (le_trans (mul-le-mul (mul-le-mul h (le_refl e)) (le_refl d)) (mul-le-mul g (le_refl d))))

-- a number of at least a over a finite one of at most b, b above 0
pub div_least : (x y : Float) (a b k : ℕ) → Pow k → 0 < b → AtLeast a x → Mag b y → 2 ^ k * b ≤ a → AtLeast (2 ^ k) (div binary32 x y)
unfolding div
div_least nan y a b k p B f g h = absurd f
div_least (inf s) nan a b k p B f g h = absurd g
div_least (inf s) (inf t) a b k p B f g h = absurd g
div_least (inf s) (fin t n d) a b k p B f g h = tt
div_least (fin s m e) nan a b k p B f g h = absurd g
div_least (fin s m e) (inf t) a b k p B f g h = absurd g
div_least (fin s zero e) (fin t n d) a b k p B f g h = absurd (not-le_of_lt (mul-pos (lt_of_lt_of_le (mul-pos (pow_pos k) B) h) (down_pos e)) (subst (λ (x : ℕ). a * down e ≤ x) (zero-mul (up e)) f))
div_least (fin s (suc m) e) (fin t zero d) a b k p B f g h = simp (ne_eqb (suc m) 0 (no_suc m)) tt
div_least (fin s (suc m) e) (fin t (suc n) d) a b k p B f g h =
    simp (ne_eqb (suc n) 0 (no_suc n))
    (round_least (unlike s t) (suc m * up e * down d) (suc n * up d * down e) k p (mul-pos (mul-pos (zero-lt-suc n) (up_pos d)) (down_pos e)) (under (suc n * up d) (suc m * up e) (down d) (down e) a b (2 ^ k) g f h))
