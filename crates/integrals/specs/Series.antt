-- Document 01 section 3: the two series, turn by turn. Definitions only.
use Rattle.std.specs.Prelude.{ℕ, zero, suc, ◌+◌, Bool, true, false, ◌||◌, Float, Option, Some, None}
use Rattle.std.specs.Float.Ieee.{neg, le}
use Rattle.single.specs.Single.{◌⊞◌, ◌⊟◌, ◌⊠◌, ◌⊘◌, num}
use Rattle.elementary.specs.Basic.{absolute}
use Rattle.elementary.specs.Logarithm.{logarithm}
use Rattle.integrals.specs.declared.series.SeriesSum.{SeriesSum}

abbrev pub most_turns : ℕ
most_turns = 8

-- the term after `term`
abbrev pub next_term : Float → Float → Float → Float
next_term term sq g = neg term ⊠ sq ⊠ (g ⊟ num 2 1) ⊘ ((g ⊟ num 1 1) ⊠ g ⊠ g)

-- a series ends at the first next term of at most 0.00005
abbrev pub small : Float → Bool
small term = le (absolute term) (num 5 100000)

-- The series from a turn on: `left` turns may still be made, `n` were made. `ends`: the last one left a small term.
unfoldable pub series_from : ℕ → Bool → ℕ → Float → Float → Float → Float → Option SeriesSum
series_from zero true n sum term g sq = Some (record { sum = sum; turns = n })
series_from zero false n sum term g sq = None
series_from (suc left) true n sum term g sq = Some (record { sum = sum; turns = n })
series_from (suc left) false n sum term g sq =
    let next = next_term term sq g in
    series_from left (small next) (n + 1) (sum ⊞ term) next (g ⊞ num 2 1) sq

unfoldable pub series_of : Float → Float → Float → Float → Option SeriesSum
unfolding series_from
series_of first start from sq = series_from most_turns false 0 first start from sq

-- Euler's constant, as the cosine integral's series has it
abbrev pub euler : Float
euler = num 5772156649 10000000000

unfoldable pub ci_series : Float → Option SeriesSum
ci_series x = let sq = x ⊠ x in series_of (euler ⊞ logarithm x) (neg sq ⊘ num 4 1) (num 4 1) sq

unfoldable pub si_series : Float → Option SeriesSum
si_series x = series_of (num 0 1) x (num 3 1) (x ⊠ x)

-- ---- refusal 11
-- a small term comes within the turns left
unfoldable pub settles_within : ℕ → Float → Float → Float → Bool
settles_within zero term g sq = false
settles_within (suc left) term g sq =
    let next = next_term term sq g in small next || settles_within left next (g ⊞ num 2 1) sq

unfoldable pub ci_settles : Float → Bool
unfolding settles_within
ci_settles x = let sq = x ⊠ x in settles_within most_turns (neg sq ⊘ num 4 1) (num 4 1) sq

unfoldable pub si_settles : Float → Bool
unfolding settles_within
si_settles x = settles_within most_turns x (num 3 1) (x ⊠ x)

-- a series' sum: 0 where it is refused
unfoldable pub series_value : Option SeriesSum → Float
series_value (Some s) = s.sum
series_value None = num 0 1
