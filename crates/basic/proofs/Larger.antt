-- The larger of a number and 0.00001, by the library's word for it. Assumes nothing.
use Rattle.std.proofs.Common.{◌≡◌, ℕ, inl, inr, ◌*◌, ◌<◌, ◌^◌, Bool, true, false, cond, not, ◌||◌, T, negsuc, refl, ◌∙◌, subst, arith, eqb}
use Rattle.std.specs.Float.{IsFloatMax}
use Rattle.std.proofs.lemmas.Float.{lt_trans, lt_irrefl, eq-not_lt, eq_flip, le_right, le_of_lt, lt_of_not-le}
use lib.Dec.{eqb→eq}
use lib.Ieee.{Float, nan, inf, fin, binary32, fits, round, up, down, lt, le, eq, is_nan}
use lib.Ieee.Fits.{and_l, and_r, down_pos}
use Rattle.single.proofs.Booleans.{holds}
use Rattle.single.proofs.Value.{value_unique}
use Rattle.basic.specs.Basic.{max_small}

abbrev least : Float
least = fin false 2748779 (negsuc 37)

-- of two that compare equal, either is the other
same_least : (x : Float) → T (fits binary32 x) → T (eq least x) → x ≡ least
unfolding eq fits
same_least nan f h = absurd h
same_least (inf s) f h = absurd h
same_least (fin true m e) f h =
    let n : ℕ = 2748779 * 1 * down e in
    let z : 2748779 * 1 * down e ≡ 0 = eqb→eq n 0 (and_r (eqb n (m * up e * 2 ^ 38)) (eqb n 0) h) in
    let d : 0 < down e = down_pos e in
    absurd (omega arith)
same_least (fin false m e) f h =
    let n : ℕ = 2748779 * 1 * down e in
    let z : 2748779 * 1 * down e ≡ m * up e * 2 ^ 38 = eqb→eq n (m * up e * 2 ^ 38) (and_l (eqb n (m * up e * 2 ^ 38)) true h) in
    value_unique binary32 (fin false m e) least false 2748779 (2 ^ 38) (omega arith) f tt (refl, omega arith) (refl, refl)

above_is : (x r : Float) → lt least x ≡ true → IsFloatMax x least r → r ≡ x
unfolding le
above_is x r p (inl h) = rw p at h
above_is x r p (inr h) =
    go (lt x least) (eq x least) (is_nan x) (λ t. lt_irrefl x (lt_trans x least x t (holds p)))
    (λ t. eq-not_lt least x (eq_flip x least t) (holds p)) (le_right least x (le_of_lt least x (holds p))) h
  where
    go : (a b n : Bool) → (T a → ⊥) → (T b → ⊥) → T (not n) → r ≡ cond ((a || b) || n) least x → r ≡ x
    go true b n f g k h = absurd (f tt)
    go false true n f g k h = absurd (g tt)
    go false false true f g k h = absurd k
    go false false false f g k h = h

below_is : (x r : Float) → T (fits binary32 x) → lt least x ≡ false → IsFloatMax x least r → r ≡ least
unfolding le is_nan
below_is x r f p (inl h) = go (lt least x) (eq least x) p (same_least x f) h
  where
    go : (a b : Bool) → a ≡ false → (T b → x ≡ least) → r ≡ cond ((a || b) || false) x least → r ≡ least
    go true b q g h = (cc)
    go false true q g h = h ∙ g tt
    go false false q g h = h
below_is x r f p (inr h) = go (le x least) (is_nan x) (λ m t. subst T p (lt_of_not-le x least m tt t)) h
  where
    go : (a n : Bool) → (T (not n) → T (not a) → ⊥) → r ≡ cond (a || n) least x → r ≡ least
    go true n g h = h
    go false true g h = h
    go false false g h = absurd (g tt tt)

pub max_is : (x r : Float) → fits binary32 x ≡ true → IsFloatMax x least r → r ≡ max_small x
unfolding max_small round
max_is x r f h = go (lt least x) refl
  where
    go : (a : Bool) → lt least x ≡ a → r ≡ cond a x least
    go true p = above_is x r p h
    go false p = below_is x r (holds f) p h
