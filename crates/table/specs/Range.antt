-- Document 01 sections 8 and 9: a card's first and last MHz, and its filled rows. Definitions only.
use Rattle.std.specs.Prelude.{ℕ, Bool, ◌&&◌, ℤ, pos}
use Rattle.std.specs.Int.Signed.{le_z}
use Rattle.table.specs.Table.{row_count}

-- 1 to 30 MHz, the first not above the last
unfoldable pub is_range : ℤ → ℤ → Bool
is_range first last = le_z (pos 1) first && le_z first last && le_z last (pos row_count)

-- the term "filled row": from the first to the last MHz of an accepted card
unfoldable pub is_filled : ℤ → ℤ → ℕ → Bool
is_filled first last m = le_z first (pos m) && le_z (pos m) last
