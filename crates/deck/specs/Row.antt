-- What the filling of a row stores, by the row's own part; and its contract. Definitions only.
use Rattle.std.specs.Prelude.{◌≡◌, cond, List, ℕ, zero, suc, set, Float}
use Rattle.angles.specs.declared.angles.Azimuth.{Azimuth}
use Rattle.angles.specs.declared.angles.Elevation.{Elevation}
use Rattle.parameters.specs.declared.kind.Kind.{Kind}
use Rattle.finish.specs.Finish.{ground_of}
use Rattle.antennas.specs.declared.antenna.Antenna.{Antenna}
use Rattle.rows.specs.declared.row.Row.{Row}
use Rattle.cells.specs.Cell.{blend_of, blends_with_zenith, cell_gain}
use Rattle.table.specs.Table.{gain_at}
use Rattle.independence.specs.Laws.{Fills}
use Rattle.independence.specs.EntryContracts.{RowDone}
use Rattle.cards.specs.declared.fields.Fields.{Fields}
use Rattle.deck.specs.Columns.{elevation_at, column_at}
use Rattle.cards.specs.Card.{card_of, antenna_for}
use Rattle.deck.specs.Antenna.{the_antenna}

-- the ground gain, given the row's gain at the zenith
unfoldable pub ground_cell : Kind → Float → Elevation → Float → Float
ground_cell kind zenith e height = cond (blends_with_zenith kind) (blend_of e zenith (ground_of kind height).gain) (ground_of kind height).gain

-- the gain at d degrees, from 1
abbrev pub cell_at : Row → Float → Azimuth → ℕ → Float
cell_at row zenith azimuth d = cell_gain row zenith azimuth (elevation_at d) (column_at d)

-- a table after the first n gains above the ground of the row at m MHz
unfoldable pub stored_above : (ℕ → Float) → ℕ → ℕ → List Float → List Float
stored_above gain m zero t = t
stored_above gain m (suc n) t = set (stored_above gain m n t) (gain_at m (suc n)) (gain (suc n))

-- the row at m MHz of a card with this antenna, whichever fields the card was read from
abbrev pub RowOfFields : Antenna → ℕ → Float → List Float → List Float → ℕ → Float → Type 0
RowOfFields antenna m h t t' refusal left =
    (f : Fields) → antenna ≡ antenna_for (card_of f) → Fills the_antenna f m → RowDone the_antenna f m h t t' refusal left
