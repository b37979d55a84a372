-- Document 01 sections 4 and 6: a cell above the ground. Definitions only.
use Rattle.std.specs.Prelude.{Bool, true, false, cond, Float}
use Rattle.single.specs.Single.{◌⊞◌, ◌⊟◌, ◌⊠◌, num}
use Rattle.elementary.specs.Trigonometric.{sine, cosine}
use Rattle.parameters.specs.declared.kind.Kind.{Kind}
use Rattle.parameters.specs.declared.kind.Kind.TheVariants as K
use Rattle.angles.specs.Angles.{right_angle, azimuth_of, elevation_of}
use Rattle.reflection.specs.Ground.{reflect_of}
use Rattle.angles.specs.declared.angles.Azimuth.{Azimuth}
use Rattle.angles.specs.declared.angles.Elevation.{Elevation}
use Rattle.curtain.specs.Gain.{rain_of, sok_of}
use Rattle.curtain.specs.Cell as Curtain
use Rattle.curtain.specs.declared.card.CurtainCard.{CurtainCard}
use Rattle.curtain.specs.declared.row.CurtainRow.{CurtainRow}
use Rattle.finish.specs.Finish.{decibels_of, floored}
use Rattle.patterns.specs.Pattern.{power_of}
use Rattle.patterns.specs.declared.pattern.Pattern.{Pattern}
use Rattle.patterns.specs.declared.pattern.Pattern.TheVariants as P
use Rattle.rows.specs.declared.row.Row.{Row}

-- a power, taken to dB
unfoldable pub power_cell : Row → Azimuth → Elevation → Float
power_cell row azimuth e =
    floored row.kind (decibels_of (power_of row.pattern azimuth e (reflect_of row.soil e))) row.eff row.sok

-- the curtain, which is in dB and has its offset at the floor alone
unfoldable pub curtain_cell : CurtainCard → CurtainRow → Row → Azimuth → Float → Elevation → Float
curtain_cell card spacings row azimuth delta e =
    let gain = Curtain.cell_of card spacings azimuth row.soil delta e row.threshold in
    floored row.kind (rain_of gain) row.eff (sok_of gain row.sok)

abbrev pub cell_by : Pattern → Row → Azimuth → Float → Elevation → Float
cell_by (P.Rhombic legs) row azimuth delta e = power_cell row azimuth e
cell_by (P.Interlaced legs offset) row azimuth delta e = power_cell row azimuth e
cell_by (P.Vee slope) row azimuth delta e = power_cell row azimuth e
cell_by (P.SlopingRhombic slope) row azimuth delta e = power_cell row azimuth e
cell_by (P.Curtain card spacings) row azimuth delta e = curtain_cell card spacings row azimuth delta e
cell_by (P.Wire dipole) row azimuth delta e = power_cell row azimuth e
cell_by (P.Vertical monopole) row azimuth delta e = power_cell row azimuth e
cell_by (P.Inverted l) row azimuth delta e = power_cell row azimuth e
cell_by P.Other row azimuth delta e = power_cell row azimuth e

-- `iongain2` above the ground
unfoldable pub cell_of : Row → Azimuth → Float → Elevation → Float
cell_of row azimuth delta e = cell_by row.pattern row azimuth delta e

-- the elevation of the second call, straight up
abbrev pub zenith_elevation : Float
zenith_elevation = right_angle

-- `rain_90`: at azimuth 0
unfoldable pub zenith_gain : Row → Float
zenith_gain row = cell_of row (azimuth_of (num 0 1)) zenith_elevation (elevation_of (cosine zenith_elevation) (sine zenith_elevation))

-- by the sine's fourth power, which is the elevation's `s`
unfoldable pub blend_of : Elevation → Float → Float → Float
blend_of e zenith rain = zenith ⊠ e.s ⊞ rain ⊠ (num 1 1 ⊟ e.s)

-- types 3 and 4
unfoldable pub blends_with_zenith : Kind → Bool
blends_with_zenith K.Dipole = true
blends_with_zenith K.Yagi = true
blends_with_zenith _ = false

-- `iongain` above the ground, given the row's gain at the zenith
unfoldable pub cell_gain : Row → Float → Azimuth → Float → Elevation → Float
cell_gain row zenith azimuth delta e =
    cond (blends_with_zenith row.kind) (blend_of e zenith (cell_of row azimuth delta e)) (cell_of row azimuth delta e)
