-- Which rows and columns are the table's. Definitions only.
use Rattle.std.specs.Prelude.{ℕ, ◌≤◌}
use Rattle.table.specs.Table.{row_count, column_count}

-- row m and columns j and jp1, all from 1, are the table's
pub record InTable (m j jp1 : ℕ) : Type 0 where
  pub first : 1 ≤ m
  pub last : m ≤ row_count
  pub column : 1 ≤ j
  pub most : j ≤ column_count
  pub next : 1 ≤ jp1
  pub end : jp1 ≤ column_count
