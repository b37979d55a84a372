-- Document 01 section 4: `iongain2`'s reflection coefficients, from the soil and the elevation. The vertical one has magnitude cv and
-- phase psiv, the horizontal one ch and psih. Definitions only.
use Rattle.std.specs.Prelude.{cond, Float}
use Rattle.std.specs.Float.Ieee.{neg, lt, le, eq}
use Rattle.single.specs.Single.{◌⊞◌, ◌⊟◌, ◌⊠◌, ◌⊘◌, num}
use Rattle.root.specs.Root.{root}
use Rattle.elementary.specs.Basic.{absolute}
use Rattle.elementary.specs.Trigonometric.{sine, cosine, sine_cosine_of}
use Rattle.elementary.specs.Arctangent.{arctangent}
use Rattle.angles.specs.Angles.{right_angle}
use Rattle.angles.specs.declared.angles.Elevation.{Elevation}
use Rattle.reflection.specs.declared.soil.Soil.{Soil}
use Rattle.reflection.specs.declared.ground.Ground.{Ground}
use Rattle.reflection.specs.declared.ground.Refraction.{Refraction}
use Rattle.reflection.specs.declared.ground.Coefficient.{Coefficient}
use Rattle.reflection.specs.declared.image.ReflectedPhase.{ReflectedPhase}

abbrev pub two : Float
two = num 2 1

abbrev pub half : Float
half = num 5 10

-- er - cos^2 - jx: its real part, its magnitude and its phase
abbrev pub ert_of : Soil → Elevation → Float
ert_of soil e = soil.er ⊟ e.t ⊠ e.t

abbrev pub rho_of : Soil → Elevation → Float
rho_of soil e = let ert = ert_of soil e in root (ert ⊠ ert ⊞ soil.x ⊠ soil.x)

abbrev pub alpha_of : Soil → Elevation → Float
alpha_of soil e = neg (arctangent (soil.x ⊘ ert_of soil e))

-- rho, rho12 and alpha
unfoldable pub refraction_of : Soil → Elevation → Refraction
refraction_of soil e = let rho = rho_of soil e in record { rho = rho; rho12 = root rho; alpha = alpha_of soil e }

-- cv before the rule below
unfoldable pub cv_of : Soil → Elevation → Refraction → Float
cv_of soil e w =
    root
    (w.rho ⊠ w.rho ⊞ soil.u ⊠ soil.u ⊠ e.s
    ⊟ two ⊠ w.rho ⊠ soil.u ⊠ e.r ⊠ cosine (w.alpha ⊞ two ⊠ soil.asxv))
    ⊘ (w.rho ⊞ soil.u ⊠ e.r ⊞ two ⊠ w.rho12 ⊠ soil.v ⊠ e.q ⊠ cosine (w.alpha ⊠ half ⊞ soil.asxv))

unfoldable pub a_of : Soil → Elevation → Refraction → Float
a_of soil e w = two ⊠ w.rho12 ⊠ e.q ⊠ soil.v ⊠ sine (w.alpha ⊠ half ⊞ soil.asxv)

unfoldable pub b_of : Soil → Elevation → Refraction → Float
b_of soil e w = w.rho ⊟ soil.u ⊠ e.r

unfoldable pub psiv_of : Float → Float → Float
psiv_of a b =
    cond (lt b (num 0 1)) (arctangent (a ⊘ b) ⊞ num 3141593 1000000)
    (cond (eq b (num 0 1))
    (cond (lt a (num 0 1)) (neg right_angle) (cond (eq a (num 0 1)) (num 0 1) right_angle))
    (arctangent (a ⊘ b)))

unfoldable pub vertical_of : Soil → Elevation → Refraction → Coefficient
vertical_of soil e w = record { magnitude = cv_of soil e w; phase = psiv_of (a_of soil e w) (b_of soil e w) }

unfoldable pub psih_of : Elevation → Refraction → Float
psih_of e w = arctangent (two ⊠ w.rho12 ⊠ e.q ⊠ sine (w.alpha ⊠ half) ⊘ (w.rho ⊟ e.r))

unfoldable pub ch_of : Elevation → Refraction → Float
ch_of e w =
    root (w.rho ⊠ w.rho ⊞ e.s ⊟ two ⊠ w.rho ⊠ e.r ⊠ cosine w.alpha)
    ⊘ (w.rho ⊞ e.r ⊞ two ⊠ w.rho12 ⊠ e.q ⊠ cosine (w.alpha ⊠ half))

unfoldable pub horizontal_of : Elevation → Refraction → Coefficient
horizontal_of e w = record { magnitude = ch_of e w; phase = psih_of e w }

-- cv becomes ch where they differ by 0.001 or less
unfoldable pub without_small_difference : Float → Float → Float
without_small_difference cv ch = cond (le (absolute (cv ⊟ ch)) (num 1 1000)) ch cv

unfoldable pub reflect_of : Soil → Elevation → Ground
reflect_of soil e =
    let w = refraction_of soil e in
    let vertical = vertical_of soil e w in
    let horizontal = horizontal_of e w in
    record {
      ch = horizontal.magnitude;
      cv = without_small_difference vertical.magnitude horizontal.magnitude;
      psih = horizontal.phase;
      psiv = vertical.phase;
    }

-- the power of a wave with its image in the ground, which has c of its amplitude and this phase
abbrev pub image_power : Float → Float → Float
image_power c phase = c ⊠ c ⊞ num 1 1 ⊟ two ⊠ c ⊠ cosine phase

-- that of a wave whose image lies hwave2 below it, at an elevation of sine q: of ch and psih, or of cv and psiv
unfoldable pub with_image : Float → Float → Float → Float → Float
with_image c psi hwave2 q = image_power c (psi ⊟ hwave2 ⊠ q)

-- sine and cosine of the image's phase there, by psih and by psiv
unfoldable pub reflected_of : Float → Float → Float → Float → ReflectedPhase
reflected_of psih psiv hwave2 q =
    record { horizontal = sine_cosine_of (psih ⊟ hwave2 ⊠ q); vertical = sine_cosine_of (psiv ⊟ hwave2 ⊠ q) }
