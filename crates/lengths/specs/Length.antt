-- Document 01 section 8: lengths by kind, and their three roles in `iongain2` against the call's wave. Definitions only.
use Rattle.std.specs.Prelude.{cond, Float}
use Rattle.std.specs.Float.Ieee.{neg, lt}
use Rattle.single.specs.Single.{◌⊠◌, ◌⊘◌, num}
use Rattle.elementary.specs.Basic.{absolute}
use Rattle.parameters.specs.declared.kind.Kind.{Kind}
use Rattle.parameters.specs.declared.kind.Kind.TheVariants as K
use Rattle.lengths.specs.declared.length.Length.{Length}
use Rattle.lengths.specs.declared.length.Length.TheVariants.{Metres, Wavelengths}
use Rattle.lengths.specs.declared.length.LegInWaves.{LegInWaves}
use Rattle.lengths.specs.declared.length.PhaseInWaves.{PhaseInWaves}

-- a negative number gives wavelengths of the opposite sign, any other gives metres
unfoldable pub length_of : Float → Length
length_of v = cond (lt v (num 0 1)) (Wavelengths (neg v)) (Metres v)

-- the height slot of a type. "Type 2's height slot stays a plain gain": no length is read from it
unfoldable pub height_slot_of : Kind → Float → Length
height_slot_of K.Monopole anh = Metres (num 0 1)
height_slot_of _ anh = length_of anh

-- the leg: fac and el1
unfoldable pub leg_of : Length → Float → LegInWaves
leg_of (Metres el) wave = record { fac = num 31416 10000 ⊠ el ⊘ wave; el1 = el ⊘ wave }
leg_of (Wavelengths el1) wave = record { fac = num 31416 10000 ⊠ el1; el1 = el1 }

abbrev pub in_waves : Float → Float → PhaseInWaves
in_waves turn x = record { phase = turn ⊠ x; waves = x }

-- a height of either kind, with `turn` to the wavelength. Metres not above 0 count as wavelengths, without their sign
unfoldable pub phase_of : Float → Length → Float → PhaseInWaves
phase_of turn (Metres h) wave =
    cond (lt (num 0 1) h) (record { phase = turn ⊠ h ⊘ wave; waves = h ⊘ wave }) (in_waves turn (absolute h))
phase_of turn (Wavelengths x) wave = in_waves turn x

-- the turn of the height, whose phase is hwave and whose wavelengths are h1
abbrev pub height_turn : Float
height_turn = num 62832 10000

-- the turn of types 2 and 5, of their height, which is their leg: a and x. The Rust multiplies wavelengths the other way round,
-- which is the same product: proofs/Signed.antt
abbrev pub monopole_turn : Float
monopole_turn = num 6283185 1000000
