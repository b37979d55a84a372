-- Document 01 section 4: what `iongain2`'s arms 1 and 10 share. Definitions only.
use Rattle.std.specs.Prelude.{Float}
use Rattle.single.specs.Single.{◌⊞◌, ◌⊟◌, ◌⊠◌, ◌⊘◌, num}
use Rattle.elementary.specs.Trigonometric.{sine, cosine}
use Rattle.angles.specs.declared.angles.Azimuth.{Azimuth}
use Rattle.angles.specs.declared.angles.Elevation.{Elevation}
use Rattle.angles.specs.Angles.{radians_of}
use Rattle.rhombics.specs.declared.legs.Legs.{Legs}

-- the card's angle and off-azimuth, fac and hwave. sisum and sidif are the sines of rhi + reta and rhi - reta (types 7 and 9 take reta - rhi).
-- Type 10 writes rhi + reta the other way round, which is the same sum: reflection/proofs/Sum.antt
unfoldable pub legs_of : Float → Azimuth → Float → Float → Legs
legs_of phi azimuth fac hwave =
    let rhi = radians_of phi in
    record {
      sb = azimuth.sb;
      cb = azimuth.cb;
      srhi = sine rhi;
      crhi = cosine rhi;
      sisum = sine (rhi ⊞ azimuth.reta);
      sidif = sine (rhi ⊟ azimuth.reta);
      fac = fac;
      hwave = hwave;
    }

unfoldable pub u1_of : Legs → Elevation → Float
u1_of legs e = num 1 1 ⊟ e.t ⊠ legs.sisum

unfoldable pub u2_of : Legs → Elevation → Float
u2_of legs e = num 1 1 ⊟ e.t ⊠ legs.sidif

-- type 10's elfac, which type 1 writes out
unfoldable pub elfac_of : Legs → Elevation → Float
elfac_of legs e =
    let u1 = u1_of legs e in
    let u2 = u2_of legs e in
    legs.crhi ⊠ sine (legs.fac ⊠ u1) ⊠ sine (legs.fac ⊠ u2) ⊘ (u1 ⊠ u2)
