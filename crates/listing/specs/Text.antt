-- Document 01 section 10: the printed lines. Definitions only.
use Rattle.std.specs.Prelude.{ℕ, zero, suc, ◌+◌, List, [], ◌∷◌, ◌++◌, ℤ, pos, Float, get_or}
use Rattle.std.specs.Float.{nan}
use Rattle.table.specs.Table.{gain_at, efficiency_at}
use Rattle.output.specs.Field.{integer_field}
use Rattle.output.specs.Hundredths.{hundredths_field}

-- "each printed line ends in a line feed"
abbrev pub line_feed : List ℕ
line_feed = 10 ∷ []

-- "per card its place (7 columns), type (3), refusal (3)"
unfoldable pub heading_text : ℕ → ℤ → ℕ → List ℕ
heading_text place kop refusal = integer_field (pos place) 7 ++ integer_field kop 3 ++ integer_field (pos refusal) 3 ++ line_feed

-- "per row MHz (3), efficiency (7) and ground gain (7) in hundredths of a dB", out of a table
unfoldable pub row_text : List Float → ℕ → List ℕ
row_text table m =
    integer_field (pos m) 3 ++ hundredths_field (get_or table (efficiency_at m) nan) 7 ++ hundredths_field (get_or table (gain_at m 0) nan) 7 ++ line_feed

-- the first n rows from `first` MHz on
unfoldable pub rows_text : List Float → ℕ → ℕ → List ℕ
unfolding row_text
rows_text table first zero = []
rows_text table first (suc n) = rows_text table first n ++ row_text table (first + n)

-- "last the accepted and refused counts (7 each)"
unfoldable pub counts_text : ℕ → ℕ → List ℕ
counts_text accepted refused = integer_field (pos accepted) 7 ++ integer_field (pos refused) 7 ++ line_feed
