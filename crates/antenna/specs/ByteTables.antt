-- Document 01 section 9: a table through C is 11,040 bytes, little-endian f32s. Definitions only.
use Rattle.std.specs.Prelude.{ℕ, cond, List, [], eqb, length, Float}
use Rattle.encoding.specs.Bytes.{floats_of}

abbrev pub byte_count : ℕ
byte_count = 11040

-- the table that the bytes hold; of any other number of bytes it is empty, whose length is wrong too
unfoldable pub table_of : List ℕ → List Float
table_of bs = cond (eqb (length bs) byte_count) (floats_of bs) []
