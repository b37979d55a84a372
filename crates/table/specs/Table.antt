-- Document 01 section 7: the table, 2,760 f32: 30 rows (1 to 30 MHz) of 91 gains (0 to 90 degrees), then 30 efficiencies. Definitions only.
use Rattle.std.specs.Prelude.{ℕ, ◌+◌, ◌-◌, ◌*◌, Bool, not, cond, List, eqb, length, replicate, Float}
use Rattle.single.specs.Single.{num}
use Rattle.limits.specs.Refusals.{Test, refuse}

abbrev pub row_count : ℕ
row_count = 30

abbrev pub column_count : ℕ
column_count = 91

-- the gains
abbrev pub gain_count : ℕ
gain_count = 2730

-- and the efficiencies: proofs/Counts.antt
abbrev pub table_length : ℕ
table_length = 2760

-- where the gain at m MHz, from 1, and d degrees, from 0, stands, and where the efficiency at m MHz
abbrev pub gain_at : ℕ → ℕ → ℕ
gain_at m d = (m - 1) * column_count + d

abbrev pub efficiency_at : ℕ → ℕ
efficiency_at m = gain_count + (m - 1)

unfoldable pub is_table : List Float → Bool
is_table t = eqb (length t) table_length

-- a list of this length with x everywhere
unfoldable pub filled_with : List Float → Float → List Float
filled_with t x = replicate (length t) x

unfoldable pub cleared : List Float
cleared = replicate table_length (num 0 1)

-- a refused card's table: all zeros, or untouched if its length is wrong
unfoldable pub refused_table : List Float → List Float
refused_table t = cond (is_table t) cleared t

abbrev pub length_test : List Float → Test
length_test t = refuse 7 (not (is_table t))
