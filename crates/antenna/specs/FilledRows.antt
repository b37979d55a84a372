-- Document 02, C-11: a card's lookup reads the card's filled rows only. Definitions only.
use Rattle.std.specs.Prelude.{ℕ, ◌<◌, ◌≡◌, true, cond, List, ℤ, length, get_or, Float}
use Rattle.std.specs.Float.{nan}
use Rattle.std.specs.Float.Ieee.{lt, le}
use Rattle.single.specs.Single.{whole}
use Rattle.table.specs.Range.{is_filled}
use Rattle.table.specs.Table.{column_count, gain_at, efficiency_at}
use Rattle.antenna.specs.Rows.{row_of, row_alone, blended_at}
use Rattle.antenna.specs.declared.places.Place.{Place}
use Rattle.antenna.specs.declared.rows.GainEfficiency.{GainEfficiency}

-- the row at m MHz alone, at a place's columns
abbrev pub alone_at : Place → List Float → ℕ → GainEfficiency
alone_at p t m = row_alone (row_of t m p.j p.jp1) p.xdelta

-- 'Below the first MHz it takes the first row alone, from the last MHz up the last row alone'; between them the blend of `gain_lookup`
unfoldable pub from_filled_rows : ℕ → ℕ → List Float → Float → Place → GainEfficiency
from_filled_rows first last t fmc p =
    cond (lt fmc (whole first)) (alone_at p t first)
    (cond (le (whole last) fmc) (alone_at p t last)
    (blended_at p (row_of t)))

-- two tables of one length that have the same numbers in a card's filled rows
pub record SameFilled (first last : ℤ) (t u : List Float) : Type 0 where
  pub lengths : length t ≡ length u
  pub gains : (m d : ℕ) → is_filled first last m ≡ true → d < column_count → get_or t (gain_at m d) nan ≡ get_or u (gain_at m d) nan
  pub efficiencies : (m : ℕ) → is_filled first last m ≡ true → get_or t (efficiency_at m) nan ≡ get_or u (efficiency_at m) nan
