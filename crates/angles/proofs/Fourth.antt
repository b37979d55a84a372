-- An elevation's `s` is the fourth power of its sine, by which types 3 and 4 are blended. Assumes nothing.
use mathlib.Core.Path.{◌≡◌, refl}
use lib.Ieee.{Float}
use Rattle.elementary.specs.Basic.{square, fourth}
use Rattle.angles.specs.Angles.{elevation_of}

pub s_is_fourth : (t q : Float) → (elevation_of t q).s ≡ fourth q
unfolding elevation_of square fourth
s_is_fourth t q = refl
