-- Document 01 section 4: `iongain2`'s arm 1, the terminated rhombic. Definitions only.
use Rattle.std.specs.Prelude.{Float}
use Rattle.single.specs.Single.{◌⊞◌, ◌⊟◌, ◌⊠◌, num}
use Rattle.elementary.specs.Basic.{square}
use Rattle.reflection.specs.Ground.{with_image}
use Rattle.angles.specs.declared.angles.Elevation.{Elevation}
use Rattle.reflection.specs.declared.ground.Ground.{Ground}
use Rattle.rhombics.specs.declared.legs.Legs.{Legs}
use Rattle.rhombics.specs.Legs.{elfac_of}

unfoldable pub rhombic_of : Legs → Elevation → Ground → Float
rhombic_of legs e earth =
    let hwave2 = num 2 1 ⊠ legs.hwave in
    num 32 10 ⊠ square (elfac_of legs e)
    ⊠ (square (legs.cb ⊟ legs.srhi ⊠ e.t) ⊠ with_image earth.ch earth.psih hwave2 e.q
    ⊞ legs.sb ⊠ legs.sb ⊠ with_image earth.cv earth.psiv hwave2 e.q ⊠ e.r)
