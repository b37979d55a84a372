-- Document 01 sections 2 to 6, 8, 9 and "From the input": the constants of their definitions, each beside the bits of the nearest f32. Definitions only.
-- Section 1's are in elementary/specs/Constants.antt; the cone's tables of section 9, whole numbers and tenths, stand in inverted_cone/specs alone.
use Rattle.std.specs.Prelude.{◌≡◌, List, [], ◌∷◌, ◌++◌}
use Rattle.std.specs.Float.{binary32}
use Rattle.std.specs.Float.Ieee.{of_bits}
use Rattle.single.specs.Single.{num}
use Rattle.elementary.specs.Constants.{Constant, ◌is◌}
use Rattle.parameters.specs.Model.{as_written, as_meant}
use Rattle.integrals.specs.Series.{euler}
use Rattle.integrals.specs.Rational.{millionths}
use Rattle.angles.specs.Angles.{pi, right_angle}
use Rattle.verticals.specs.Monopole.{rintw}
use Rattle.curtain.specs.Floor.{pio2}
use Rattle.finish.specs.Finish.{floor}
use Rattle.limits.specs.Tests.{most}
use Rattle.antenna.specs.Places.{r2d}

-- whole numbers, of any section
abbrev pub whole_constants : List Constant
whole_constants =
    (num 0 1 is 0x00000000)
    ∷ (num 1 1 is 0x3f800000)
    ∷ (num 2 1 is 0x40000000)
    ∷ (num 3 1 is 0x40400000)
    ∷ (num 4 1 is 0x40800000)
    ∷ (num 10 1 is 0x41200000)
    ∷ (num 16 1 is 0x41800000)
    ∷ (num 20 1 is 0x41a00000)
    ∷ (num 30 1 is 0x41f00000)
    ∷ (num 120 1 is 0x42f00000)
    ∷ (num 400 1 is 0x43c80000)
    ∷ (num 693 1 is 0x442d4000)
    ∷ (num 1600 1 is 0x44c80000)
    ∷ (num 18000 1 is 0x468ca000)
    ∷ []

-- ioninit and lengths: section 2, and section 8's lengths (crates parameters, lengths)
abbrev pub length_constants : List Constant
length_constants =
    (num 25 100 is 0x3e800000)
    ∷ (num 31416 10000 is 0x40490ff9)
    ∷ (num 62832 10000 is 0x40c90ff9)
    ∷ (num 6283185 1000000 is 0x40c90fda)
    ∷ (as_written is 0x3f800000)
    ∷ (as_meant is 0x38d1b717)
    ∷ []

-- section 3 (crate integrals): the limit on the series' term, Euler's constant, pi / 2, the rational form
abbrev pub integral_constants : List Constant
integral_constants =
    (num 5 100000 is 0x3851b717)
    ∷ (euler is 0x3f13c468)
    ∷ (num 15708 10000 is 0x3fc90ff9)
    ∷ (num 1048576 1 is 0x49800000)
    ∷ (millionths 48196927 is 0x4240c9a7)
    ∷ (millionths 482485984 is 0x43f13e35)
    ∷ (millionths 1114978885 is 0x448b5f53)
    ∷ (millionths 449690326 is 0x43e0d85d)
    ∷ (millionths 42252855 is 0x422902ec)
    ∷ (millionths 302757865 is 0x43976102)
    ∷ (millionths 352018498 is 0x43b0025e)
    ∷ (millionths 21821899 is 0x41ae9340)
    ∷ (millionths 40021433 is 0x422015f3)
    ∷ (millionths 322624911 is 0x43a14ffd)
    ∷ (millionths 570236280 is 0x440e8f1f)
    ∷ (millionths 157105423 is 0x431d1afd)
    ∷ (millionths 38027264 is 0x42181beb)
    ∷ (millionths 265187033 is 0x438497f1)
    ∷ (millionths 335677320 is 0x43a7d6b2)
    ∷ (millionths 38102495 is 0x421868f4)
    ∷ []

-- section 4 (crates angles, reflection, rhombics, interlaced, slopes, sloping_patterns); 0.017453293 is section 8's too
abbrev pub pattern_constants : List Constant
pattern_constants =
    (pi is 0x40490fda)
    ∷ (right_angle is 0x3fc90fd8)
    ∷ (num 2997925 10000 is 0x4395e571)
    ∷ (num 17453293 1000000000 is 0x3c8efa35)
    ∷ (num 3141593 1000000 is 0x40490fdc)
    ∷ (num 1 1000 is 0x3a83126f)
    ∷ (num 5 10 is 0x3f000000)
    ∷ (num 32 10 is 0x404ccccd)
    ∷ (num 6283185308 1000000000 is 0x40c90fdb)
    ∷ (num 8 10 is 0x3f4ccccd)
    ∷ (num 5 100 is 0x3d4ccccd)
    ∷ (num 25 1000 is 0x3ccccccd)
    ∷ []

-- section 4 (crates dipoles, resistance, verticals, inverted_l, curtain)
abbrev pub row_constants : List Constant
row_constants =
    (num 577 1000 is 0x3f13b646)
    ∷ (num 577215 1000000 is 0x3f13c45d)
    ∷ (rintw is 0x41907ae1)
    ∷ (num 2 10 is 0x3e4ccccd)
    ∷ (num 6283 1000 is 0x40c90e56)
    ∷ (num 1 100000000 is 0x322bcc77)
    ∷ (num 15916 100000 is 0x3e22fad7)
    ∷ (num 6335 1000 is 0x40cab852)
    ∷ (num 6795 100 is 0x4287e666)
    ∷ (num 20 100 is 0x3e4ccccd)
    ∷ (pio2 is 0x3fc90fdb)
    ∷ (num 1 100000 is 0x3727c5ac)
    ∷ []

-- sections 5 and 6 (crate finish)
abbrev pub finish_constants : List Constant
finish_constants =
    (floor is 0xc1f00000)
    ∷ (num 35 100 is 0x3eb33333)
    ∷ (num 6416702573 1000000 is 0x45c8859f)
    ∷ (num 609133295 100000 is 0x45be5aaa)
    ∷ (num 2179890548 1000000 is 0x45083e40)
    ∷ (num 3648173803 10000000 is 0x43b668a0)
    ∷ (num 2564620146 100000000 is 0x41cd2b6c)
    ∷ (num 17 10 is 0x3fd9999a)
    ∷ []

-- section 9, lookups (crate antenna): R2D
abbrev pub lookup_constants : List Constant
lookup_constants = (r2d is 0x42652ee1) ∷ []

-- "From the input" (crate limits): refusal 2's magnitude and refusal 5's bays. Refusal 4's 1 and 30 and refusal 6's 1,048,576 stand above
abbrev pub limit_constants : List Constant
limit_constants = (most is 0x447a0000) ∷ (num 64 1 is 0x42800000) ∷ []

abbrev pub constants : List Constant
constants =
    whole_constants
    ++ length_constants
    ++ integral_constants
    ++ pattern_constants
    ++ row_constants
    ++ finish_constants
    ++ lookup_constants
    ++ limit_constants

-- each is the f32 of its bits
unfoldable pub EachIs : List Constant → Type 0
EachIs [] = Unit {0}
EachIs (c ∷ cs) = (c.value ≡ of_bits binary32 c.bits) × EachIs cs
