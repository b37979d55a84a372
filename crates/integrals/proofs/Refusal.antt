-- Where 11 arises: an answer's number is 11 exactly where the series that it takes do not settle, and there its values are zeros. Assumes nothing.
use Prim.Native.Nat.{ℕ, zero, suc, ◌+◌}
use mathlib.Core.Path.{◌≡◌, refl}
use mathlib.Core.Bool.{Bool, true, false, ◌&&◌, ◌||◌}
use mathlib.Core.Logic.{◌⊎◌, inl, inr}
use native.Mathlib.Omega.{arith}
use lib.Ieee.{Float, lt}
use Rattle.std.specs.Prelude.{Option, Some, None}
use Rattle.single.specs.Single.{◌⊞◌, num}
use Rattle.single.proofs.Answer.{answers}
use Rattle.single.specs.Answer.{IsAnswer}
use Rattle.integrals.specs.Settled.{settled_number, unsettled_number, settled_value, settled_map, settled_both}
use Rattle.integrals.specs.Series.{next_term, small, series_from, settles_within, series_of, ci_series, si_series, ci_settles, si_settles, series_value}
use Rattle.integrals.specs.Cisi.{zeros, integrals_of, integrals_settle}
use Rattle.integrals.specs.Pair.{integral_pair, pair_settles, zero_pair}
use Rattle.integrals.specs.declared.settled.Settled.{Settled}
use Rattle.integrals.specs.declared.series.SeriesSum.{SeriesSum}
use Rattle.integrals.specs.declared.rational.Integrals.{Integrals}

-- ---- whatever is computed
settled_cases : {A : Type 0} (zero_value : A) (o : Option (Settled A)) → (unsettled_number o ≡ 0) ⊎ (settled_value zero_value o ≡ zero_value)
unfolding unsettled_number settled_value
settled_cases z (Some s) = inl refl
settled_cases z None = inr refl

-- an answer of the definition, whose number is known, is the whole answer
pub settled_answers : {A : Type 0} (zero_value : A) (whole : Option (Settled A)) (settles : Bool) → unsettled_number whole ≡ settled_number settles
    → (r : Option (Settled A)) → r ≡ whole → IsAnswer unsettled_number (settled_value zero_value) zero_value 11 whole settles r
settled_answers z = answers unsettled_number (settled_value z) z 11 (omega arith) (settled_cases z)

-- what is computed from it, by no further turns, has its number
pub map_number : {A B : Type 0} (f : A → B) (o : Option (Settled A)) → unsettled_number (settled_map f o) ≡ unsettled_number o
unfolding unsettled_number
map_number f (Some s) = refl
map_number f None = refl

-- where the first settles the second decides
pub both_number : {A B C : Type 0} (f : A → B → C) (a : Option A) (b : Option B) (s t : Bool) → unsettled_number a ≡ settled_number s
    → unsettled_number b ≡ settled_number t → unsettled_number (settled_both f a b) ≡ settled_number (s && t)
unfolding unsettled_number
both_number f (Some a) (Some b) true t p q = q
both_number f (Some a) None true t p q = q
both_number f None b true t p q = absurd (omega (arith, p))
both_number f (Some a) b false t p q = absurd (omega (arith, p))
both_number f None b false t p q = refl

-- ---- a series
within : (left : ℕ) (ends : Bool) (n : ℕ) (sum term g sq : Float)
    → unsettled_number (series_from left ends n sum term g sq) ≡ settled_number (ends || settles_within left term g sq)
unfolding series_from settles_within unsettled_number
within zero true n sum term g sq = refl
within zero false n sum term g sq = refl
within (suc left) true n sum term g sq = refl
within (suc left) false n sum term g sq =
    let next = next_term term sq g in within left (small next) (n + 1) (sum ⊞ term) next (g ⊞ num 2 1) sq

series_cases : (a : Option SeriesSum) → (unsettled_number a ≡ 0) ⊎ (series_value a ≡ num 0 1)
unfolding unsettled_number series_value
series_cases (Some s) = inl refl
series_cases None = inr refl

series_answers : (whole : Option SeriesSum) (settles : Bool) → unsettled_number whole ≡ settled_number settles
    → (r : Option SeriesSum) → r ≡ whole → IsAnswer unsettled_number series_value (num 0 1) 11 whole settles r
series_answers = answers unsettled_number series_value (num 0 1) 11 (omega arith) series_cases

ci_number : (x : Float) → unsettled_number (ci_series x) ≡ settled_number (ci_settles x)
unfolding ci_series ci_settles series_of
ci_number x = within 8 false 0 _ _ _ _

si_number : (x : Float) → unsettled_number (si_series x) ≡ settled_number (si_settles x)
unfolding si_series si_settles series_of
si_number x = within 8 false 0 _ _ _ _

pub ci_answers : (x : Float) (r : Option SeriesSum) → r ≡ ci_series x → IsAnswer unsettled_number series_value (num 0 1) 11 (ci_series x) (ci_settles x) r
ci_answers x = series_answers (ci_series x) (ci_settles x) (ci_number x)

pub si_answers : (x : Float) (r : Option SeriesSum) → r ≡ si_series x → IsAnswer unsettled_number series_value (num 0 1) 11 (si_series x) (si_settles x) r
si_answers x = series_answers (si_series x) (si_settles x) (si_number x)

-- ---- both integrals of a number
pub integrals_number : (x : Float) → unsettled_number (integrals_of x) ≡ settled_number (integrals_settle x)
unfolding integrals_of integrals_settle unsettled_number
integrals_number x = go (lt x (num 1 1)) refl
  where
    go : (b : Bool) → lt x (num 1 1) ≡ b → unsettled_number (integrals_of x) ≡ settled_number (integrals_settle x)
    go true t = rw t (both_number _ (ci_series x) (si_series x) (ci_settles x) (si_settles x) (ci_number x) (si_number x))
    go false t = rw t refl

pub integrals_answers : (x : Float) (r : Option (Settled Integrals)) → r ≡ integrals_of x
    → IsAnswer unsettled_number (settled_value zeros) zeros 11 (integrals_of x) (integrals_settle x) r
integrals_answers x = settled_answers zeros (integrals_of x) (integrals_settle x) (integrals_number x)

-- ---- those of two numbers
pub pair_number : (x y : Float) → unsettled_number (integral_pair x y) ≡ settled_number (pair_settles x y)
unfolding integral_pair pair_settles
pair_number x y = both_number _ (integrals_of x) (integrals_of y) (integrals_settle x) (integrals_settle y) (integrals_number x) (integrals_number y)

pub pair_answers : (x y : Float) (r : Option (Settled (Integrals × Integrals))) → r ≡ integral_pair x y
    → IsAnswer unsettled_number (settled_value zero_pair) zero_pair 11 (integral_pair x y) (pair_settles x y) r
pair_answers x y = settled_answers zero_pair (integral_pair x y) (pair_settles x y) (pair_number x y)
