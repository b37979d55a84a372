-- NaN in, NaN out; and `max(0.00001)` is never NaN. Assumes nothing.
use mathlib.Core.Path.{◌≡◌, refl}
use mathlib.Core.Bool.{Bool, true, false, not, cond}
use lib.Dec.{T}
use lib.Ieee.{Float, nan, inf, fin, is_nan, le, lt, eq, neg, add, sub, mul, div, round}
use Rattle.single.specs.Single.{on_positive}
use Rattle.elementary.specs.Basic.{absolute, max_small, least_power}
use Rattle.elementary.specs.Trigonometric.{in_range, sine, cosine, tangent}
use Rattle.elementary.specs.Arctangent.{from_base, arctangent_of, arctangent, arcsine}
use Rattle.elementary.specs.Logarithm.{logarithm, logarithm10}

pub max_number : (x : Float) → T (not (is_nan (max_small x)))
unfolding max_small lt is_nan round
max_number nan = tt
max_number (inf true) = tt
max_number (inf false) = tt
max_number (fin s m e) = go (lt least_power (fin s m e))
  where
    go : (b : Bool) → T (not (is_nan (cond b (fin s m e) least_power)))
    go true = tt
    go false = tt

pub sine_nan : sine nan ≡ nan
unfolding sine in_range le lt eq neg round
sine_nan = refl

pub cosine_nan : cosine nan ≡ nan
unfolding cosine in_range le lt eq neg round
cosine_nan = refl

pub tangent_nan : tangent nan ≡ nan
unfolding tangent sine cosine in_range le lt eq div neg round
tangent_nan = refl

pub arctangent_nan : arctangent nan ≡ nan
unfolding arctangent arctangent_of absolute from_base lt add sub mul
arctangent_nan = refl

pub arcsine_nan : arcsine nan ≡ nan
unfolding arcsine arctangent arctangent_of absolute from_base lt add sub mul div
arcsine_nan = refl

pub logarithm_nan : logarithm nan ≡ nan
unfolding logarithm on_positive
logarithm_nan = refl

pub logarithm10_nan : logarithm10 nan ≡ nan
unfolding logarithm10 logarithm on_positive mul
logarithm10_nan = refl
