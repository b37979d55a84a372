-- Document 01 section 9: what a lookup takes of the table's rows, and the blend; document 02, C-11: a row alone. Definitions only.
use Rattle.std.specs.Prelude.{ℕ, ◌-◌, List, get_or, Float}
use Rattle.std.specs.Float.{nan}
use Rattle.single.specs.Single.{◌⊞◌, ◌⊟◌, ◌⊠◌}
use Rattle.table.specs.Table.{gain_at, efficiency_at}
use Rattle.antenna.specs.declared.places.Place.{Place}
use Rattle.antenna.specs.declared.rows.GainEfficiency.{GainEfficiency}
use Rattle.antenna.specs.declared.rows.Row.{Row}

-- the row at m MHz: its gains at columns j and jp1, from 1, and its efficiency
unfoldable pub row_of : List Float → ℕ → ℕ → ℕ → Row
row_of t m j jp1 = record { gain = get_or t (gain_at m (j - 1)) nan; above = get_or t (gain_at m (jp1 - 1)) nan; efficiency = get_or t (efficiency_at m) nan }

-- x of the way from a to b
abbrev pub between : Float → Float → Float → Float
between x a b = a ⊞ x ⊠ (b ⊟ a)

unfoldable pub blended : Row → Row → Float → Float → GainEfficiency
blended low high xfmc xdelta =
    let rx = between xfmc low.gain high.gain in
    let ry = between xfmc low.above high.above in
    record { gain = between xdelta rx ry; efficiency = between xfmc low.efficiency high.efficiency }

-- the blend of two rows at a place
abbrev pub blended_at : Place → (ℕ → ℕ → ℕ → Row) → GainEfficiency
blended_at p row = blended (row p.i p.j p.jp1) (row p.ip1 p.j p.jp1) p.xfmc p.xdelta

-- one row 'alone': 'angles blend as before', and nothing is done in MHz, so no other row counts and the efficiency keeps its bits
unfoldable pub row_alone : Row → Float → GainEfficiency
row_alone row xdelta = record { gain = between xdelta row.gain row.above; efficiency = row.efficiency }
