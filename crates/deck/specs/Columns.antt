-- Document 01 section 8: the elevations of a table's columns, 0 to 90 degrees. Definitions only.
use Rattle.std.specs.Prelude.{◌≡◌, List, ℕ, ◌<◌, get_or, length, Float}
use Rattle.std.specs.Float.{nan}
use Rattle.elementary.specs.Trigonometric.{sine, cosine}
use Rattle.angles.specs.Angles.{radians_of, elevation_of}
use Rattle.angles.specs.declared.angles.Elevation.{Elevation}
use Rattle.single.specs.Single.{whole}

-- "degrees times 0.017453293 is the elevation"
abbrev pub elevation_at : ℕ → Float
elevation_at d = radians_of (whole d)

unfoldable pub column_at : ℕ → Elevation
column_at d = elevation_of (cosine (elevation_at d)) (sine (elevation_at d))

-- the first n of 91 columns: the elevations in radians, their cosines and their sines
pub record ColumnsAre (deltas cosines sines : List Float) (n : ℕ) : Type 0 where
  pub delta_count : length deltas ≡ 91
  pub cosine_count : length cosines ≡ 91
  pub sine_count : length sines ≡ 91
  pub delta : (d : ℕ) → d < n → get_or deltas d nan ≡ elevation_at d
  pub cosine : (d : ℕ) → d < n → get_or cosines d nan ≡ cosine (elevation_at d)
  pub sine : (d : ℕ) → d < n → get_or sines d nan ≡ sine (elevation_at d)
