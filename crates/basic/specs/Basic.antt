-- Document 01 section 1: absolute value, `max(0.00001)`, `as i32`, `powi(2)` and `powi(4)`. Definitions only.
use Rattle.std.specs.Prelude.{false, cond, ℤ, Float}
use Rattle.std.specs.Float.{nan, inf, fin}
use Rattle.std.specs.Float.Ieee.{lt, to_signed}
use Rattle.single.specs.Single.{◌⊠◌, num}

-- clears the sign
unfoldable pub absolute : Float → Float
absolute nan = nan
absolute (inf s) = inf false
absolute (fin s m e) = fin false m e

abbrev pub least_power : Float
least_power = num 1 100000

-- `max(0.00001)`: of NaN it is 0.00001
unfoldable pub max_small : Float → Float
max_small x = cond (lt least_power x) x least_power

-- `as i32`: toward zero, to the nearest end of the range beyond it, 0 for NaN
unfoldable pub cut_toward : Float → ℤ
cut_toward x = to_signed 31 x

-- `powi(2)`, and `powi(4)`, the square of that
unfoldable pub square : Float → Float
square y = y ⊠ y

unfoldable pub fourth : Float → Float
fourth y = square y ⊠ square y
