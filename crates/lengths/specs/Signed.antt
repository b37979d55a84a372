-- The three roles as `iongain2` writes them, on the number with its sign. Definitions only: proofs/Signed.antt says that reading
-- a number's kind first changes nothing.
use Rattle.std.specs.Prelude.{cond, Float}
use Rattle.std.specs.Float.Ieee.{lt}
use Rattle.single.specs.Single.{◌⊠◌, ◌⊘◌, num}
use Rattle.elementary.specs.Basic.{absolute}
use Rattle.lengths.specs.declared.length.LegInWaves.{LegInWaves}
use Rattle.lengths.specs.declared.length.PhaseInWaves.{PhaseInWaves}

-- if el < 0.0
unfoldable pub signed_leg : Float → Float → LegInWaves
signed_leg el wave =
    let el1 = absolute el in
    cond (lt el (num 0 1)) (record { fac = num 31416 10000 ⊠ el1; el1 = el1 })
    (record { fac = num 31416 10000 ⊠ el ⊘ wave; el1 = el ⊘ wave })

-- if h > 0.0: hwave and h1
unfoldable pub signed_height : Float → Float → PhaseInWaves
signed_height h wave =
    let h1 = absolute h in
    cond (lt (num 0 1) h) (record { phase = num 62832 10000 ⊠ h ⊘ wave; waves = h ⊘ wave })
    (record { phase = num 62832 10000 ⊠ h1; waves = h1 })

-- if h > 0.0, in types 2 and 5: a and x
unfoldable pub signed_monopole : Float → Float → PhaseInWaves
signed_monopole h wave =
    let h1 = absolute h in
    cond (lt (num 0 1) h) (record { phase = num 6283185 1000000 ⊠ h ⊘ wave; waves = h ⊘ wave })
    (record { phase = h1 ⊠ num 6283185 1000000; waves = h1 })
