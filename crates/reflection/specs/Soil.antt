-- Document 01 section 4: what `iongain2` takes from the ground and the MHz alone: x, u, v, asxv. Definitions only.
use Rattle.std.specs.Prelude.{Float}
use Rattle.single.specs.Single.{◌⊞◌, ◌⊠◌, ◌⊘◌, num}
use Rattle.root.specs.Root.{root}
use Rattle.elementary.specs.Arctangent.{arcsine}
use Rattle.reflection.specs.declared.soil.Soil.{Soil}

-- the ground's relative permittivity is er - jx
unfoldable pub x_of : Float → Float → Float
x_of sigma fmc = num 18000 1 ⊠ sigma ⊘ fmc

-- its magnitude's square, and its magnitude
unfoldable pub u_of : Float → Float → Float
u_of er x = er ⊠ er ⊞ x ⊠ x

unfoldable pub v_of : Float → Float
v_of u = root u

-- its phase, with the opposite sign
unfoldable pub asxv_of : Float → Float → Float
asxv_of x v = arcsine (x ⊘ v)

unfoldable pub soil_of : Float → Float → Float → Soil
soil_of sigma er fmc =
    let x = x_of sigma fmc in
    let u = u_of er x in
    let v = v_of u in
    record { er = er; x = x; u = u; v = v; asxv = asxv_of x v }
