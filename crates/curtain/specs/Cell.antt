-- Document 01 section 4, curtain: a cell. Definitions only.
use Rattle.std.specs.Prelude.{cond, Float}
use Rattle.reflection.specs.Ground.{reflect_of}
use Rattle.angles.specs.declared.angles.Azimuth.{Azimuth}
use Rattle.angles.specs.declared.angles.Elevation.{Elevation}
use Rattle.reflection.specs.declared.soil.Soil.{Soil}
use Rattle.curtain.specs.Floor.{takes_pattern}
use Rattle.curtain.specs.Pattern.{gain_of}
use Rattle.curtain.specs.declared.card.CurtainCard.{CurtainCard}
use Rattle.curtain.specs.declared.row.CurtainRow.{CurtainRow}
use Rattle.curtain.specs.declared.gain.CurtainGain.{CurtainGain}
use Rattle.curtain.specs.declared.gain.CurtainGain.TheVariants.{Floor}

-- near the vertical the floor, beyond the threshold the pattern
unfoldable pub cell_of : CurtainCard → CurtainRow → Azimuth → Soil → Float → Elevation → Float → CurtainGain
cell_of card row azimuth soil delta elevation threshold =
    cond (takes_pattern delta threshold) (gain_of card row azimuth elevation (reflect_of soil elevation)) Floor
