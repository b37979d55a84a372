-- Document 01 section 6: `iongain` within the limits, by value. The ground path takes the carried height, the path above it does not. Definitions only.
use Rattle.std.specs.Prelude.{Bool, true, cond, Float, Option, Some, None}
use Rattle.std.specs.Float.Ieee.{le}
use Rattle.single.specs.Single.{num}
use Rattle.angles.specs.Angles.{wave_of}
use Rattle.angles.specs.declared.angles.Elevation.{Elevation}
use Rattle.finish.specs.Finish.{ground_of}
use Rattle.rows.specs.Row.{row_of}
use Rattle.cells.specs.Cell.{zenith_gain, blend_of, blends_with_zenith, cell_gain}
use Rattle.patterns.specs.Pattern.{pattern_settles}
use Rattle.antennas.specs.declared.antenna.Antenna.{Antenna}
use Rattle.rows.specs.declared.row.Row.{Row}
use Rattle.integrals.specs.Settled.{at_once, with_turns}
use Rattle.integrals.specs.declared.settled.Settled.{Settled}
use Rattle.gain_core.specs.declared.calls.Answer.{Answer}

-- what a row's cells blend with: types 3 and 4 alone take it
unfoldable pub zenith_gain_for : Row → Float
zenith_gain_for row = cond (blends_with_zenith row.kind) (zenith_gain row) (num 0 1)

abbrev pub above_from : Antenna → Float → Elevation → Option (Settled Row) → Option (Settled Answer)
above_from antenna delta e (Some settled) =
    let row = settled.value in
    Some (with_turns settled (record { gain = cell_gain row (zenith_gain_for row) antenna.azimuth delta e; efficiency = row.eff; height = row.x }))
above_from antenna delta e None = None

-- elevation above 0
unfoldable pub above_ground : Antenna → Float → Float → Elevation → Option (Settled Answer)
above_ground antenna fmc delta e = above_from antenna delta e (row_of antenna fmc)

-- types 3 and 4: the second call looks straight up, so the height left is the row's
abbrev pub ground_from : Antenna → Elevation → Float → Option (Settled Row) → Option (Settled Answer)
ground_from antenna e height (Some settled) =
    let row = settled.value in
    let low = ground_of antenna.kind height in
    Some (with_turns settled (record { gain = blend_of e (zenith_gain row) low.gain; efficiency = low.efficiency; height = row.x }))
ground_from antenna e height None = None

-- elevation 0 or below: the height is the carried one, and stays but for types 3 and 4
unfoldable pub at_ground : Antenna → Float → Elevation → Float → Option (Settled Answer)
at_ground antenna fmc e height =
    let low = ground_of antenna.kind height in
    cond (blends_with_zenith antenna.kind) (ground_from antenna e height (row_of antenna fmc))
    (Some (at_once (record { gain = low.gain; efficiency = low.efficiency; height = height })))

unfoldable pub work_of : Antenna → Float → Float → Elevation → Float → Option (Settled Answer)
work_of antenna fmc delta e height =
    cond (le delta (num 0 1)) (at_ground antenna fmc e height) (above_ground antenna fmc delta e)

-- at the ground types 3 and 4 alone take the row
unfoldable pub ground_settles : Antenna → Float → Bool
ground_settles antenna fmc = cond (blends_with_zenith antenna.kind) (pattern_settles antenna (wave_of fmc)) true

unfoldable pub work_settles : Antenna → Float → Float → Bool
work_settles antenna fmc delta = cond (le delta (num 0 1)) (ground_settles antenna fmc) (pattern_settles antenna (wave_of fmc))

-- where the work is refused: document 01's zeros for gain and efficiency, and the height stays
abbrev pub refused_at : Float → Answer
refused_at height = record { gain = num 0 1; efficiency = num 0 1; height = height }
