-- The count of a list's lines. Definitions only.
use Rattle.std.specs.Prelude.{ℕ, ◌+◌, Bool, cond, ltb}
use Rattle.vectors.specs.declared.tally.Tally.{Tally}

-- no more than a million
unfoldable pub one_more : ℕ → ℕ
one_more count = cond (ltb count 1000000) (count + 1) count

-- a line more, which differs unless it is equal
unfoldable pub counted_of : Tally → Bool → Tally
counted_of tally equal =
    record { compared = one_more tally.compared; differ = cond equal tally.differ (one_more tally.differ) }
