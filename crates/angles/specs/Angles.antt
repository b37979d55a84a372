-- Document 01 section 4: what `iongain2` takes from the MHz alone, from an angle in degrees, and from the elevation's sine and cosine. Definitions only.
use Rattle.std.specs.Prelude.{Float}
use Rattle.single.specs.Single.{◌⊠◌, ◌⊘◌, num}
use Rattle.elementary.specs.Trigonometric.{sine, cosine}
use Rattle.angles.specs.declared.angles.Azimuth.{Azimuth}
use Rattle.angles.specs.declared.angles.Elevation.{Elevation}

-- constants.rs's PI, one step below the f32 nearest to pi: types 6 and 9
abbrev pub pi : Float
pi = num 31415926 10000000

-- the Rust's 1.570796, for pi / 2
abbrev pub right_angle : Float
right_angle = num 1570796 1000000

-- the wavelength in metres
unfoldable pub wave_of : Float → Float
wave_of fmc = num 2997925 10000 ⊘ fmc

unfoldable pub radians_of : Float → Float
radians_of degrees = degrees ⊠ num 17453293 1000000000

-- the off-azimuth: reta, and its sine and cosine
unfoldable pub azimuth_of : Float → Azimuth
azimuth_of toaz = let reta = radians_of toaz in record { reta = reta; sb = sine reta; cb = cosine reta }

-- the elevation by its cosine and sine: t and q, r = q q and s = r r
unfoldable pub elevation_of : Float → Float → Elevation
elevation_of t q = let r = q ⊠ q in record { t = t; q = q; r = r; s = r ⊠ r }
