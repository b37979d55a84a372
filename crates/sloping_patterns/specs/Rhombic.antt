-- Document 01 section 4: type 9, the sloping rhombic. Definitions only.
use Rattle.std.specs.Prelude.{Float}
use Rattle.std.specs.Float.Ieee.{neg}
use Rattle.single.specs.Single.{◌⊞◌, ◌⊟◌, ◌⊠◌, ◌⊘◌, num}
use Rattle.elementary.specs.Trigonometric.{sine, cosine}
use Rattle.trigonometric.specs.declared.trigonometric.SineCosine.{SineCosine}
use Rattle.angles.specs.Angles.{pi}
use Rattle.angles.specs.declared.angles.Elevation.{Elevation}
use Rattle.reflection.specs.declared.ground.Ground.{Ground}
use Rattle.reflection.specs.Ground.{reflected_of}
use Rattle.slopes.specs.declared.slope.Slope.{Slope}
use Rattle.sloping_patterns.specs.declared.direction.Field.{Field}
use Rattle.sloping_patterns.specs.declared.rhombic.LegPair.{LegPair}
use Rattle.sloping_patterns.specs.Direction.{direction_of}

-- a6 and b6 of u1 and u2, a7 and b7 of u3 and u4
unfoldable pub leg_pair_of : Float → Float → Float → LegPair
leg_pair_of fac2 u v =
    record {
      a = num 1 1 ⊞ cosine (fac2 ⊠ (u ⊞ v)) ⊟ cosine (fac2 ⊠ u) ⊟ cosine (fac2 ⊠ v);
      b = neg (sine (fac2 ⊠ (u ⊞ v))) ⊞ sine (fac2 ⊠ u) ⊞ sine (fac2 ⊠ v);
    }

-- f7 and g7 with cv, w3 and w4; f8 and g8 with ch, w1 and w2
unfoldable pub field_of : Float → Float → Float → SineCosine → LegPair → LegPair → Field
field_of x y c w legs images =
    let cosw = w.cosine in
    let sinw = w.sine in
    let a7 = images.a in
    let b7 = images.b in
    record {
      re = x ⊠ legs.a ⊞ y ⊠ c ⊠ (a7 ⊠ cosw ⊟ b7 ⊠ sinw);
      im = x ⊠ legs.b ⊞ y ⊠ c ⊠ (a7 ⊠ sinw ⊞ b7 ⊠ cosw);
    }

-- `rain`, with the phases moved by half a turn
unfoldable pub sloping_rhombic_rain : Slope → Elevation → Ground → Float
sloping_rhombic_rain slope elevation earth =
    let d = direction_of slope elevation in
    let legs = leg_pair_of slope.fac2 d.u1 d.u2 in
    let images = leg_pair_of slope.fac2 d.u3 d.u4 in
    let x7 = d.copsi8 ⊘ d.u2 ⊟ d.copsi7 ⊘ d.u1 in
    let y7 = d.copsi5 ⊘ d.u3 ⊟ d.copsi6 ⊘ d.u4 in
    let x8 = slope.sidif ⊘ d.u1 ⊟ slope.sisum ⊘ d.u2 in
    let y8 = slope.sidif ⊘ d.u3 ⊟ slope.sisum ⊘ d.u4 in
    let w = reflected_of (earth.psih ⊞ pi) (earth.psiv ⊟ pi) slope.hwave2 elevation.q in
    let v = field_of x7 y7 earth.cv w.vertical legs images in
    let h = field_of x8 y8 earth.ch w.horizontal legs images in
    let pp = slope.pp in
    num 5 100 ⊠ (v.re ⊠ v.re ⊞ v.im ⊠ v.im ⊞ pp ⊠ pp ⊠ (h.re ⊠ h.re ⊞ h.im ⊠ h.im))
