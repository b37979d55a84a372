-- The buffers of a call are ready: their lengths, and room for the longest text. Definitions only.
use Rattle.std.specs.Prelude.{ℕ, ◌+◌, ◌≤◌, ◌≡◌, List, Float, length}
use Rattle.table.specs.Table.{table_length}
use Rattle.listing.specs.Sizes.{most_held, most_text}

pub record Ready (line : List ℕ) (table : List Float) (out : List ℕ) (at : ℕ) : Type 0 where
  pub line_length : length line ≡ most_held
  pub table_len : length table ≡ table_length
  pub room : at + most_text ≤ length out
