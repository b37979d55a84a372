-- Document 01 sections 4 to 6: what `iongain2` takes from the antenna and the MHz alone. Definitions only.
use Rattle.std.specs.Prelude.{get_or, Float, Option}
use Rattle.std.specs.Float.{nan}
use Rattle.single.specs.Single.{num}
use Rattle.parameters.specs.declared.kind.Kind.{Kind}
use Rattle.parameters.specs.declared.kind.Kind.TheVariants as K
use Rattle.lengths.specs.Length.{phase_of, monopole_turn}
use Rattle.parameters.specs.Model.{curtain_elevation_threshold}
use Rattle.lengths.specs.declared.length.Length.{Length}
use Rattle.parameters.specs.declared.params.IoncapParams.{IoncapParams}
use Rattle.angles.specs.Angles.{wave_of}
use Rattle.reflection.specs.Soil.{soil_of}
use Rattle.finish.specs.Finish.{efficiency_of}
use Rattle.patterns.specs.Pattern.{pattern_of}
use Rattle.antennas.specs.declared.antenna.Antenna.{Antenna}
use Rattle.patterns.specs.declared.pattern.Pattern.{Pattern}
use Rattle.patterns.specs.declared.pattern.Pattern.TheVariants as P
use Rattle.integrals.specs.Settled.{settled_map}
use Rattle.integrals.specs.declared.settled.Settled.{Settled}
use Rattle.rows.specs.declared.row.Row.{Row}

-- `sok`: type 2's gain, nothing for 7, 9 and 10, else the first extra
unfoldable pub sok_for : Kind → IoncapParams → Float
sok_for K.Monopole params = params.anh
sok_for K.SlopingVee params = num 0 1
sok_for K.SlopingRhombic params = num 0 1
sok_for K.InterlacedRhombic params = num 0 1
sok_for _ params = get_or params.aex 0 nan

-- `x`, the height that a cell above the ground leaves: in wavelengths for types 2 and 5, else 1
unfoldable pub height_for : Kind → Length → Float → Float
height_for K.Monopole leg wave = (phase_of monopole_turn leg wave).waves
height_for K.LogPeriodic leg wave = (phase_of monopole_turn leg wave).waves
height_for _ leg wave = num 1 1

-- `eff8`: the inverted L's, else 0
unfoldable pub eff8_for : Pattern → Float
eff8_for (P.Rhombic legs) = num 0 1
eff8_for (P.Interlaced legs offset) = num 0 1
eff8_for (P.Vee slope) = num 0 1
eff8_for (P.SlopingRhombic slope) = num 0 1
eff8_for (P.Curtain card row) = num 0 1
eff8_for (P.Wire row) = num 0 1
eff8_for (P.Vertical row) = num 0 1
eff8_for (P.Inverted row) = row.eff8
eff8_for P.Other = num 0 1

abbrev pub row_from : Antenna → Float → Pattern → Row
row_from antenna fmc pattern =
    let kind = antenna.kind in
    let x = height_for kind antenna.leg (wave_of fmc) in
    record {
      kind = kind;
      pattern = pattern;
      soil = soil_of antenna.params.asig antenna.params.aeps fmc;
      eff = efficiency_of kind x (eff8_for pattern);
      sok = sok_for kind antenna.params;
      x = x;
      threshold = curtain_elevation_threshold antenna.model;
    }

unfoldable pub row_of : Antenna → Float → Option (Settled Row)
row_of antenna fmc = settled_map (row_from antenna fmc) (pattern_of antenna (wave_of fmc))

-- the values of a row that is refused: zeros and no pattern
abbrev pub zero_row : Row
zero_row =
    let o = num 0 1 in
    record {
      kind = K.Other;
      pattern = P.Other;
      soil = record { er = o; x = o; u = o; v = o; asxv = o };
      eff = o;
      sok = o;
      x = o;
      threshold = o;
    }
