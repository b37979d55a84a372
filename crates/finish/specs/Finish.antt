-- Document 01 section 5: `finish`. Definitions only.
use Rattle.std.specs.Prelude.{cond, Float}
use Rattle.std.specs.Float.Ieee.{le, neg}
use Rattle.single.specs.Single.{◌⊞◌, ◌⊟◌, ◌⊠◌, num}
use Rattle.elementary.specs.Basic.{max_small}
use Rattle.elementary.specs.Logarithm.{logarithm10}
use Rattle.parameters.specs.declared.kind.Kind.{Kind}
use Rattle.parameters.specs.declared.kind.Kind.TheVariants as K
use Rattle.finish.specs.declared.Finished.{Finished}

-- FLOOR
abbrev pub floor : Float
floor = neg (num 30 1)

-- label 385: `rain.max(0.00001)`, then 10 log10
unfoldable pub decibels_of : Float → Float
decibels_of rain = num 10 1 ⊠ logarithm10 (max_small rain)

-- types 2 and 5, by the height in wavelengths: 0 from 0.35 up, below it the quartic
unfoldable pub monopole_efficiency : Float → Float
monopole_efficiency x =
    cond (le (num 35 100) x) (num 0 1)
    (neg (
    (((num 6416702573 1000000 ⊠ x ⊟ num 609133295 100000) ⊠ x ⊞ num 2179890548 1000000) ⊠ x ⊟ num 3648173803 10000000) ⊠ x
    ⊞ num 2564620146 100000000))

-- label 610, by type
unfoldable pub efficiency_of : Kind → Float → Float → Float
efficiency_of K.Rhombic x eff8 = neg (num 17 10)
efficiency_of K.SlopingVee x eff8 = neg (num 17 10)
efficiency_of K.SlopingRhombic x eff8 = neg (num 17 10)
efficiency_of K.InterlacedRhombic x eff8 = neg (num 17 10)
efficiency_of K.Monopole x eff8 = monopole_efficiency x
efficiency_of K.LogPeriodic x eff8 = monopole_efficiency x
efficiency_of K.InvertedL x eff8 = eff8
efficiency_of _ x eff8 = num 0 1

-- label 405: rain plus (efficiency plus offset), then the floor, which type 2 alone has not
unfoldable pub floored : Kind → Float → Float → Float → Float
floored K.Monopole rain eff sok = rain ⊞ (eff ⊞ sok)
floored _ rain eff sok =
    let sum = rain ⊞ (eff ⊞ sok) in
    cond (le sum floor) (floor ⊞ eff) sum

-- `finish` at elevation 0 and below: the floor at the carried height, without offset, type 8's efficiency 0
unfoldable pub ground_of : Kind → Float → Finished
ground_of kind height =
    record { gain = floored kind floor (efficiency_of kind height (num 0 1)) (num 0 1); efficiency = efficiency_of kind height (num 0 1) }
