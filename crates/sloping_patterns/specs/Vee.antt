-- Document 01 section 4: type 7, the terminated sloping vee. Definitions only.
use Rattle.std.specs.Prelude.{Float}
use Rattle.std.specs.Float.Ieee.{neg}
use Rattle.single.specs.Single.{◌⊞◌, ◌⊟◌, ◌⊠◌, ◌⊘◌, num}
use Rattle.elementary.specs.Trigonometric.{sine, cosine}
use Rattle.trigonometric.specs.declared.trigonometric.SineCosine.{SineCosine}
use Rattle.angles.specs.declared.angles.Elevation.{Elevation}
use Rattle.reflection.specs.declared.ground.Ground.{Ground}
use Rattle.reflection.specs.Ground.{reflected_of}
use Rattle.slopes.specs.declared.slope.Slope.{Slope}
use Rattle.sloping_patterns.specs.declared.direction.Direction.{Direction}
use Rattle.sloping_patterns.specs.declared.direction.Field.{Field}
use Rattle.sloping_patterns.specs.declared.vee.LegPhase.{LegPhase}
use Rattle.sloping_patterns.specs.declared.vee.LegPhases.{LegPhases}
use Rattle.sloping_patterns.specs.Direction.{direction_of}

-- z and v
unfoldable pub leg_phase_of : Float → LegPhase
leg_phase_of x = record { z = cosine x ⊟ num 1 1; v = sine x }

-- z1 to z4 and v1 to v4
unfoldable pub leg_phases_of : Float → Direction → LegPhases
leg_phases_of fac2 d =
    record {
      p1 = leg_phase_of (fac2 ⊠ d.u1);
      p2 = leg_phase_of (fac2 ⊠ d.u2);
      p3 = leg_phase_of (fac2 ⊠ d.u3);
      p4 = leg_phase_of (fac2 ⊠ d.u4);
    }

-- the two squares that pp * pp multiplies, before they are squared
unfoldable pub horizontal_of : Slope → Direction → LegPhases → SineCosine → Float → Field
horizontal_of slope d p w ch =
    let y1 = d.u1 ⊠ slope.sisum in
    let y2 = d.u2 ⊠ slope.sidif in
    let y3 = d.u3 ⊠ slope.sisum in
    let y4 = d.u4 ⊠ slope.sidif in
    let u12 = d.u1 ⊠ d.u2 in
    let image = ch ⊘ (d.u3 ⊠ d.u4) in
    let w1 = w.cosine in
    let w2 = w.sine in
    record {
      re = (y2 ⊠ p.p1.z ⊟ y1 ⊠ p.p2.z) ⊘ u12
          ⊟ image ⊠ (y4 ⊠ (w1 ⊠ p.p3.z ⊞ w2 ⊠ p.p3.v) ⊟ y3 ⊠ (w1 ⊠ p.p4.z ⊞ w2 ⊠ p.p4.v));
      im = (neg y2 ⊠ p.p1.v ⊞ y1 ⊠ p.p2.v) ⊘ u12
          ⊟ image ⊠ (y4 ⊠ (w2 ⊠ p.p3.z ⊟ w1 ⊠ p.p3.v) ⊟ y3 ⊠ (w2 ⊠ p.p4.z ⊟ w1 ⊠ p.p4.v));
    }

-- the other two
unfoldable pub vertical_of : Direction → LegPhases → SineCosine → Float → Field
vertical_of d p w cv =
    let uc27 = d.u2 ⊠ d.copsi7 in
    let uc18 = d.u1 ⊠ d.copsi8 in
    let uc45 = d.u4 ⊠ d.copsi5 in
    let uc36 = d.u3 ⊠ d.copsi6 in
    let u12 = d.u1 ⊠ d.u2 in
    let image = cv ⊘ (d.u3 ⊠ d.u4) in
    let w3 = w.cosine in
    let w4 = w.sine in
    record {
      re = (p.p1.z ⊠ uc27 ⊟ p.p2.z ⊠ uc18) ⊘ u12
          ⊟ image ⊠ (w3 ⊠ (p.p3.z ⊠ uc45 ⊟ p.p4.z ⊠ uc36) ⊞ w4 ⊠ (p.p3.v ⊠ uc45 ⊟ p.p4.v ⊠ uc36));
      im = (neg p.p1.v ⊠ uc27 ⊞ p.p2.v ⊠ uc18) ⊘ u12
          ⊟ image ⊠ (w3 ⊠ (neg p.p3.v ⊠ uc45 ⊞ p.p4.v ⊠ uc36) ⊞ w4 ⊠ (p.p3.z ⊠ uc45 ⊟ p.p4.z ⊠ uc36));
    }

-- `rain`
unfoldable pub vee_rain : Slope → Elevation → Ground → Float
vee_rain slope elevation earth =
    let d = direction_of slope elevation in
    -- w2 and w1 are horizontal, w4 and w3 vertical; hwave2 is twice hwave
    let w = reflected_of earth.psih earth.psiv slope.hwave2 elevation.q in
    let p = leg_phases_of slope.fac2 d in
    let h = horizontal_of slope d p w.horizontal earth.ch in
    let v = vertical_of d p w.vertical earth.cv in
    let pp = slope.pp in
    let rain = num 25 1000 ⊠ (pp ⊠ pp ⊠ (h.re ⊠ h.re ⊞ h.im ⊠ h.im) ⊞ v.re ⊠ v.re ⊞ v.im ⊠ v.im) in
    rain ⊠ num 2 1
