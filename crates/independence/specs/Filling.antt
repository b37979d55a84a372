-- Document 01 section 8: the filling of a table, by rising MHz and in each row by rising degrees. Definitions only.
use Rattle.std.specs.Prelude.{ℕ, zero, suc, ◌+◌, ◌-◌, List, set, Float}
use Rattle.table.specs.Table.{column_count, gain_at, efficiency_at, cleared}
use Rattle.independence.specs.Antenna.{Antenna, Answer}

-- the first of two refusals, where 0 is none
abbrev pub first_of : ℕ → ℕ → ℕ
first_of zero b = b
first_of (suc a) b = suc a

module _ (A : Antenna) where
  -- ---- the row at m MHz with the incoming height h
  -- the height as its cell at d degrees finds it, and that cell's call
  unfoldable pub height_at : A.Card → ℕ → Float → ℕ → Float
  height_at c m h zero = h
  height_at c m h (suc d) = (A.call c m d (height_at c m h d)).height

  abbrev pub call_at : A.Card → ℕ → Float → ℕ → Answer
  call_at c m h d = A.call c m d (height_at c m h d)

  -- the first refusal of its first d cells
  unfoldable pub cells_refusal : A.Card → ℕ → Float → ℕ → ℕ
  cells_refusal c m h zero = 0
  cells_refusal c m h (suc d) = first_of (cells_refusal c m h d) (call_at c m h d).refusal

  -- the table t after its first d gains, and after the row. A row's efficiency is its 90-degree call's
  unfoldable pub gains_in : A.Card → ℕ → Float → ℕ → List Float → List Float
  gains_in c m h zero t = t
  gains_in c m h (suc d) t = set (gains_in c m h d t) (gain_at m d) (call_at c m h d).gain

  unfoldable pub row_in : A.Card → ℕ → Float → List Float → List Float
  row_in c m h t = set (gains_in c m h column_count t) (efficiency_at m) (call_at c m h 90).efficiency

  -- ---- a card with the incoming height h: the height, the first refusal and the table t after its first n rows
  unfoldable pub height_after : A.Card → Float → ℕ → Float
  height_after c h zero = h
  height_after c h (suc n) = height_at c (A.first c + n) (height_after c h n) column_count

  unfoldable pub rows_refusal : A.Card → Float → ℕ → ℕ
  rows_refusal c h zero = 0
  rows_refusal c h (suc n) = first_of (rows_refusal c h n) (cells_refusal c (A.first c + n) (height_after c h n) column_count)

  unfoldable pub rows_in : A.Card → Float → ℕ → List Float → List Float
  rows_in c h zero t = t
  rows_in c h (suc n) t = row_in c (A.first c + n) (height_after c h n) (rows_in c h n t)

  -- ---- the whole card, first to last MHz
  abbrev pub rows_of : A.Card → ℕ
  rows_of c = suc (A.last c) - A.first c

  abbrev pub card_height : A.Card → Float → Float
  card_height c h = height_after c h (rows_of c)

  -- refusal 11, from the first cell that has it
  abbrev pub card_refusal : A.Card → Float → ℕ
  card_refusal c h = rows_refusal c h (rows_of c)

  abbrev pub card_table : A.Card → Float → List Float
  card_table c h = rows_in c h (rows_of c) cleared
