-- Document 01 section 4, types 7 and 9: what holds for a whole row. Definitions only.
use Rattle.std.specs.Prelude.{cond, Float}
use Rattle.std.specs.Float.Ieee.{lt}
use Rattle.single.specs.Single.{◌⊞◌, ◌⊟◌, ◌⊠◌, ◌⊘◌, num}
use Rattle.root.specs.Root.{root}
use Rattle.elementary.specs.Basic.{absolute}
use Rattle.elementary.specs.Trigonometric.{sine, cosine}
use Rattle.elementary.specs.Arctangent.{arcsine}
use Rattle.angles.specs.Angles.{radians_of}
use Rattle.slopes.specs.declared.slope.Slope.{Slope}
use Rattle.slopes.specs.declared.slope.SlopingLegs.{SlopingLegs}

-- ht: the other end's height in wavelengths. The first extra is in wavelengths where negative, else in metres
unfoldable pub ht_of : Float → Float → Float
ht_of aex1 wave = cond (lt aex1 (num 0 1)) (absolute aex1) (aex1 ⊘ wave)

-- what the other end rises above the feed, over a leg
unfoldable pub rise_of : SlopingLegs → Float
rise_of legs = (ht_of legs.aex1 legs.wave ⊟ legs.height.waves) ⊘ legs.leg.el1

-- from the slope's sine g on. The Rust's rhi is the angle phi in radians, and then this arcsine
unfoldable pub slope_of : SlopingLegs → Float → Slope
slope_of legs g =
    let reta = legs.azimuth.reta in
    let pp = root (num 1 1 ⊟ g ⊠ g) in
    let e = sine (radians_of legs.phi) in
    let rhi = arcsine (e ⊘ pp) in
    record {
      g = g;
      pp = pp;
      sisum = sine (rhi ⊞ reta);
      sidif = sine (reta ⊟ rhi);
      cosum = cosine (rhi ⊞ reta);
      codif = cosine (rhi ⊟ reta);
      fac2 = legs.leg.fac ⊠ num 2 1;
      hwave2 = num 2 1 ⊠ legs.height.phase;
    }

unfoldable pub vee_slope : SlopingLegs → Slope
vee_slope legs = slope_of legs (rise_of legs)

-- from end to end lie two legs
unfoldable pub rhombic_slope : SlopingLegs → Slope
rhombic_slope legs = slope_of legs (rise_of legs ⊠ num 5 10)
