use native.Mathlib.Omega.{arith}
use Rattle.antenna.proofs.ByteTables.{table_of_lem, bytes_long}
use Rattle.antenna.proofs.tables.RefSliceU8Table.number.Goals as goal

pub cell-requires : goal.cell-requires
cell-requires c = omega (arith, bytes_long _ _ c.requires)

pub returns : goal.returns
returns c = rw (table_of_lem _ (bytes_long _ _ c.requires).0) c.cell.ensures
