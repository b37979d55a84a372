use mathlib.Core.Path.{refl, sym, ◌∙◌}
use native.Mathlib.Omega.{arith}
use Rattle.deck.proofs.Elevations.{column_read}
use Rattle.deck.proofs.Fills.{row_settled}
use Rattle.deck.proofs.row.fill_row.Goals as goal

pub returns : goal.returns
returns c =
    row_settled _ _ _ _ _ _ _ _ _ _ (sym c.row_of-found.ensures.0 ∙ c.in_ok-row.ensures.ok_part)
    refl c.zenith_gain_for-zenith.ensures (c.elevation_of-e.ensures ∙ column_read _ _ _ 0 c.args.columns.now.elevations (omega arith))
    c.ground_cell.ensures c.fill_above.ensures
