-- Document 01 section 4: types 3 and 4. Definitions only.
use Rattle.std.specs.Prelude.{Float}
use Rattle.single.specs.Single.{◌⊞◌, ◌⊟◌, ◌⊠◌, ◌⊘◌, num}
use Rattle.elementary.specs.Trigonometric.{cosine}
use Rattle.reflection.specs.Ground.{with_image}
use Rattle.angles.specs.declared.angles.Azimuth.{Azimuth}
use Rattle.angles.specs.declared.angles.Elevation.{Elevation}
use Rattle.reflection.specs.declared.ground.Ground.{Ground}
use Rattle.dipoles.specs.declared.row.Dipole.{Dipole}
use Rattle.dipoles.specs.Row.{sin2kl}

-- `rain`
unfoldable pub dipole_rain : Dipole → Azimuth → Elevation → Ground → Float
dipole_rain dipole azimuth elevation earth =
    let sb = azimuth.sb in
    let cb = azimuth.cb in
    let t = elevation.t in
    let q = elevation.q in
    let ss = sb ⊠ sb in
    let c = t ⊠ t in
    let xkv = with_image earth.cv earth.psiv dipole.hwave2 q in
    let xkh = with_image earth.ch earth.psih dipole.hwave2 q in
    let xt1 = cosine (dipole.fac ⊠ sb ⊠ t) ⊟ dipole.cfac in
    let xb1 = num 1 1 ⊟ ss ⊠ c in
    let xt2 = (xkv ⊠ ss ⊠ elevation.r ⊞ xkh ⊠ cb ⊠ cb) ⊘ sin2kl in
    let ratio = xt1 ⊘ xb1 in
    dipole.scale ⊠ (ratio ⊠ ratio) ⊠ xt2
