-- Document 01 section 4: the choice of pattern by type, as the match of `iongain2`. Definitions only.
use Rattle.std.specs.Prelude.{Bool, true, get_or, Float, Option, Some}
use Rattle.std.specs.Float.{nan}
use Rattle.single.specs.Single.{num}
use Rattle.parameters.specs.declared.kind.Kind.{Kind}
use Rattle.parameters.specs.declared.kind.Kind.TheVariants as K
use Rattle.lengths.specs.Length.{leg_of, phase_of, height_turn}
use Rattle.lengths.specs.declared.length.LegInWaves.{LegInWaves}
use Rattle.lengths.specs.declared.length.PhaseInWaves.{PhaseInWaves}
use Rattle.lengths.specs.declared.length.Length.{Length}
use Rattle.angles.specs.declared.angles.Azimuth.{Azimuth}
use Rattle.angles.specs.declared.angles.Elevation.{Elevation}
use Rattle.reflection.specs.declared.ground.Ground.{Ground}
use Rattle.integrals.specs.Settled.{at_once, settled_map}
use Rattle.integrals.specs.declared.settled.Settled.{Settled}
use Rattle.rhombics.specs.Legs.{legs_of}
use Rattle.rhombics.specs.Rhombic.{rhombic_of}
use Rattle.interlaced.specs.Interlaced.{offset_of, interlaced_of}
use Rattle.slopes.specs.Slope.{vee_slope, rhombic_slope}
use Rattle.slopes.specs.declared.slope.SlopingLegs.{SlopingLegs}
use Rattle.sloping_patterns.specs.Vee.{vee_rain}
use Rattle.sloping_patterns.specs.Rhombic.{sloping_rhombic_rain}
use Rattle.dipoles.specs.Row.{dipole_row, dipole_settles}
use Rattle.dipoles.specs.Pattern.{dipole_rain}
use Rattle.verticals.specs.Monopole.{monopole_row, monopole_settles, monopole_rain}
use Rattle.inverted_l.specs.InvertedL.{inverted_l_row, inverted_l_settles, inverted_l_rain}
use Rattle.curtain.specs.Card.{card_of}
use Rattle.curtain.specs.Row.{row_of}
use Rattle.antennas.specs.declared.antenna.Antenna.{Antenna}
use Rattle.patterns.specs.declared.pattern.Pattern.{Pattern}
use Rattle.patterns.specs.declared.pattern.Pattern.TheVariants as P

unfoldable pub dipole_of : Float → Float → Option (Settled Pattern)
dipole_of fac hwave = settled_map (λ row. P.Wire row) (dipole_row fac hwave)

unfoldable pub monopole_for : Length → Float → Option (Settled Pattern)
monopole_for leg wave = settled_map (λ row. P.Vertical row) (monopole_row leg wave)

unfoldable pub inverted_l_of : Float → Float → Option (Settled Pattern)
inverted_l_of fac hwave = settled_map (λ row. P.Inverted row) (inverted_l_row fac hwave)

-- the legs of a sloping antenna, in wavelengths
abbrev pub sloping_of : Antenna → Float → LegInWaves → PhaseInWaves → SlopingLegs
sloping_of antenna wave leg height =
    record { aex1 = get_or antenna.params.aex 0 nan; wave = wave; leg = leg; height = height; phi = antenna.params.and; azimuth = antenna.azimuth }

-- what a row at this wavelength takes, by type, of its leg and height in wavelengths
abbrev pub pattern_by : Kind → Antenna → Float → LegInWaves → PhaseInWaves → Option (Settled Pattern)
pattern_by K.Rhombic antenna wave leg height = Some (at_once (P.Rhombic (legs_of antenna.params.and antenna.azimuth leg.fac height.phase)))
pattern_by K.InterlacedRhombic antenna wave leg height =
    let aex = antenna.params.aex in
    Some (at_once (P.Interlaced (legs_of antenna.params.and antenna.azimuth leg.fac height.phase) (offset_of (get_or aex 0 nan) (get_or aex 1 nan) wave)))
pattern_by K.InvertedL antenna wave leg height = inverted_l_of leg.fac height.phase
pattern_by K.SlopingVee antenna wave leg height = Some (at_once (P.Vee (vee_slope (sloping_of antenna wave leg height))))
pattern_by K.SlopingRhombic antenna wave leg height = Some (at_once (P.SlopingRhombic (rhombic_slope (sloping_of antenna wave leg height))))
pattern_by K.Curtain antenna wave leg height =
    let aex = antenna.params.aex in
    Some (at_once (P.Curtain (card_of antenna.params.and (get_or aex 0 nan)) (row_of leg.fac height.waves aex antenna.azimuth wave)))
pattern_by K.Dipole antenna wave leg height = dipole_of leg.fac height.phase
pattern_by K.Yagi antenna wave leg height = dipole_of leg.fac height.phase
pattern_by K.Monopole antenna wave leg height = monopole_for antenna.leg wave
pattern_by K.LogPeriodic antenna wave leg height = monopole_for antenna.leg wave
pattern_by K.Other antenna wave leg height = Some (at_once P.Other)

unfoldable pub pattern_of : Antenna → Float → Option (Settled Pattern)
pattern_of antenna wave = pattern_by antenna.kind antenna wave (leg_of antenna.leg wave) (phase_of height_turn antenna.height wave)

-- types 3 and 4, 2 and 5, and 8 take integrals; any other settles
abbrev pub settles_by : Kind → Antenna → Float → Bool
settles_by K.Dipole antenna wave = dipole_settles (leg_of antenna.leg wave).fac
settles_by K.Yagi antenna wave = dipole_settles (leg_of antenna.leg wave).fac
settles_by K.Monopole antenna wave = monopole_settles antenna.leg wave
settles_by K.LogPeriodic antenna wave = monopole_settles antenna.leg wave
settles_by K.InvertedL antenna wave = inverted_l_settles (phase_of height_turn antenna.height wave).phase
settles_by _ antenna wave = true

unfoldable pub pattern_settles : Antenna → Float → Bool
pattern_settles antenna wave = settles_by antenna.kind antenna wave

-- `rain` before label 385. The curtain's is in dB already: see `curtain_cell`, cells/specs/Cell.antt
unfoldable pub power_of : Pattern → Azimuth → Elevation → Ground → Float
power_of (P.Rhombic legs) azimuth e earth = rhombic_of legs e earth
power_of (P.Interlaced legs offset) azimuth e earth = interlaced_of legs offset e earth
power_of (P.Vee slope) azimuth e earth = vee_rain slope e earth
power_of (P.SlopingRhombic slope) azimuth e earth = sloping_rhombic_rain slope e earth
power_of (P.Curtain card row) azimuth e earth = num 0 1
power_of (P.Wire row) azimuth e earth = dipole_rain row azimuth e earth
power_of (P.Vertical row) azimuth e earth = monopole_rain row e earth
power_of (P.Inverted row) azimuth e earth = inverted_l_rain row azimuth e earth
power_of P.Other azimuth e earth = num 0 1
