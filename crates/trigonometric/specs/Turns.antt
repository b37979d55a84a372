-- n's parts as the code finds them: its float and its quadrant; the sine some quarter turns on. Definitions only, for contracts of private functions.
use Rattle.std.specs.Prelude.{ℕ, ◌+◌, ◌-◌, ◌%◌, Bool, cond, Float}
use Rattle.std.specs.Float.{binary32}
use Rattle.std.specs.Float.Ieee.{of_int}
use Rattle.single.specs.Single.{signed}
use Rattle.trigonometric.specs.Trigonometric.{sine_at, of_reduction}

unfoldable pub turns_float : Bool → ℕ → Float
turns_float s k = of_int binary32 (signed s k)

unfoldable pub quadrant_by : Bool → ℕ → ℕ
quadrant_by s k = cond s ((4 - k % 4) % 4) (k % 4)

-- k quarter turns on from quadrant q
abbrev pub sine_ahead_at : ℕ → ℕ → Float → Float → Float
sine_ahead_at k q s c = sine_at ((q + k) % 4) s c

unfoldable pub sine_ahead : ℕ → Float → Float
sine_ahead k x = of_reduction (sine_ahead_at k) x
