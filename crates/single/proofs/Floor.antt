-- The floor of -30: a number that is not at or below it is above it; zero added to an efficiency leaves its sum with -30. Assumes nothing.
use mathlib.Core.Path.{◌≡◌, refl, sym, ap, subst, ◌∙◌}
use mathlib.Core.Bool.{Bool, true, false, not, ◌||◌, ◌&&◌}
use mathlib.Core.Logic.{◌⊎◌, inl, inr}
use Prim.Native.Nat.{ℕ, zero, suc, ◌+◌, ◌*◌, ◌<◌}
use native.Mathlib.Omega.{arith}
use native.Mathlib.Nat.{add-zero, eq-or-lt_of_le, mul-one, mul-pos, not-suc-le-zero, sub-zero, zero-lt-suc, zero-mul}
use lib.IntN.{ℤ, pos}
use lib.Dec.{T, ltb, eqb, eqb_refl, ltb→lt, lt→ltb, nltb→le, not_T, T_not}
use lib.Ieee.{Float, nan, inf, fin, Format, binary32, up, down, le, lt, eq, neg, add, sum, round, fits}
use lib.Ieee.Fits.{and_i, down_pos, up_pos}
use lib.Ieee.Bits.{is_true, is_false}
use Rattle.single.specs.Single.{◌⊞◌, num}
use Rattle.single.proofs.Exact.{round_own}
use Rattle.single.proofs.Value.{zero_exp}

-- ---- not at or below: above, or not a number
or_no_left : (a b : Bool) → T (not (a || b)) → T (not a)
or_no_left true b t = t
or_no_left false b t = tt

or_no_right : (a b : Bool) → T (not (a || b)) → T (not b)
or_no_right true b t = absurd t
or_no_right false b t = t

less : (a b : ℕ) → T (not (ltb b a || (eqb a b && true))) → T (ltb a b)
less a b t =
    elim (eq-or-lt_of_le (nltb→le b a (or_no_left (ltb b a) (eqb a b && true) t))) [
      | inl e ↦ absurd (T_not (eqb a b && true) (or_no_right (ltb b a) (eqb a b && true) t) (subst (λ (x : ℕ). T (eqb a x && true)) e (and_i (eqb a a) true (eqb_refl a) tt)))
      | inr q ↦ lt→ltb a b q
    ]

pub above_floor : (x : Float) → T (not (le x (neg (num 30 1)))) → (x ≡ nan) ⊎ T (lt (neg (num 30 1)) x)
unfolding le lt eq neg round
above_floor nan t = inl refl
above_floor (inf true) t = absurd t
above_floor (inf false) t = inr tt
above_floor (fin true m e) t = inr (less (m * up e * 1) (30 * down e) t)
above_floor (fin false m e) t = inr (lt→ltb 0 (30 * down e + m * up e * 1) (omega (arith, down_pos e)))

-- ---- x + 0 is x, but for the zero with the sign minus
sum_positive : (f : Format) (a c : ℕ) → sum f false a false 0 c ≡ round f false a c
unfolding sum
sum_positive f a c = ap (λ (z : ℕ). round f false z c) (add-zero a)

sum_negative : (f : Format) (a c : ℕ) → 0 < a → sum f true a false 0 c ≡ round f true a c
unfolding sum
sum_negative f a c h =
    let n : T (not (ltb a 0)) = not_T (ltb a 0) (λ t. not-suc-le-zero (ltb→lt a 0 t)) in
    rw (is_false (ltb a 0) n, is_true (ltb 0 a) (lt→ltb 0 a h), sub-zero)

pub plus_zero : (x : Float) → T (fits binary32 x) → (x ≡ neg (num 0 1)) ⊎ (x ⊞ num 0 1 ≡ x)
unfolding add neg round
plus_zero nan h = inr refl
plus_zero (inf s) h = inr refl
plus_zero (fin true zero e) h = inl (ap (λ (z : ℤ). fin true 0 z) (zero_exp binary32 true e h))
plus_zero (fin false zero e) h =
    subst (λ (z : ℤ). (fin false 0 z ≡ fin true 0 (pos 0)) ⊎ (fin false 0 z ⊞ fin false 0 (pos 0) ≡ fin false 0 z)) (sym (zero_exp binary32 false e h)) (inr refl)
plus_zero (fin false (suc m) e) h =
    inr (rw (mul-one (suc m * up e), mul-one (down e), zero-mul (down e)) (sum_positive binary32 (suc m * up e) (down e) ∙ round_own false m e h))
plus_zero (fin true (suc m) e) h =
    inr (rw (mul-one (suc m * up e), mul-one (down e), zero-mul (down e)) (sum_negative binary32 (suc m * up e) (down e) (mul-pos (zero-lt-suc m) (up_pos e)) ∙ round_own true m e h))

-- `rain += eff + sok` at rain = -30, sok = 0
pub lowered_plus : (eff : Float) → T (fits binary32 eff) → neg (num 30 1) ⊞ (eff ⊞ num 0 1) ≡ neg (num 30 1) ⊞ eff
unfolding add neg round
lowered_plus eff h = elim (plus_zero eff h) [ inl p ↦ rw p refl | inr q ↦ ap (λ (x : Float). neg (num 30 1) ⊞ x) q ]
