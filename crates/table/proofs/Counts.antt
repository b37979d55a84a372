-- The table's counts by each other. Assumes nothing.
use Prim.Native.Nat.{◌+◌, ◌*◌}
use mathlib.Core.Path.{◌≡◌, refl}
use Rattle.table.specs.Table.{row_count, column_count, gain_count, table_length}

pub gains_of_rows : gain_count ≡ row_count * column_count
gains_of_rows = refl

pub length_of_parts : table_length ≡ gain_count + row_count
length_of_parts = refl
