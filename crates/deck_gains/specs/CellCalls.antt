-- Document 01 section 8 by section 6: which gain call each number of an accepted card's table is. Definitions only.
use Rattle.std.specs.Prelude.{◌≡◌, List, ℕ, suc, ◌<◌, ◌≤◌, T, Float}
use Rattle.std.specs.Float.Ieee.Scale.{finite}
use Rattle.single.specs.Single.{num, whole}
use Rattle.ioncap.specs.Gain.{gain_of, gain_number, gain_value, efficiency_value, height_left}
use Rattle.ioncap.specs.declared.gain.GainCall.{GainCall}
use Rattle.table.specs.Table.{column_count, gain_at, efficiency_at}
use Rattle.independence.specs.Deck.{Entry, Outcome}
use Rattle.independence.specs.Demand3.{outcome_at, cell, ground_at, Accepted, carried_at_row, carried}
use Rattle.cards.specs.declared.fields.Fields.{Fields}
use Rattle.cards.specs.Fields.{params_for}
use Rattle.deck.specs.Columns.{elevation_at}
use Rattle.deck.specs.Antenna.{the_antenna}

-- the gain call of a cell: the card's type, off-azimuth and model, its slots as `ioninit` reads them, m MHz and d degrees
abbrev pub cell_call : Fields → ℕ → ℕ → GainCall
cell_call f m d = record { kop = f.kop; toaz = f.toaz; params = params_for f; delta = elevation_at d; fmc = whole m; model = f.model }

-- the call with this height is accepted, and x is its gain
pub record IsGainOf (call : GainCall) (height x : Float) : Type 0 where
  pub accepted : gain_number (gain_of call height) ≡ 0
  pub gain : x ≡ gain_value (gain_of call height)

-- d degrees are above the ground
abbrev pub IsAbove : ℕ → Type 0
IsAbove d = 1 ≤ d

-- the filled rows of a card that finds the height h and leaves the table t
pub record TableOfCalls (f : Fields) (h : Float) (t : List Float) : Type 0 where
  -- the ground cell's call takes the carried height
  pub on_ground : (m : ℕ) → the_antenna.first f ≤ m → m ≤ the_antenna.last f → IsGainOf (cell_call f m 0) (carried_at_row the_antenna f h m) (cell t (ground_at m))
  -- a call above the ground answers the same whatever the height, if that is finite (refusal 9)
  pub above : (m d : ℕ) → the_antenna.first f ≤ m → m ≤ the_antenna.last f → IsAbove d → d < column_count → (height : Float) → T (finite height)
      → IsGainOf (cell_call f m d) height (cell t (gain_at m d))
  -- a row's efficiency is its 90-degree call's, and the next row finds the height that this call leaves
  pub efficiency : (m : ℕ) → the_antenna.first f ≤ m → m ≤ the_antenna.last f → (height : Float) → T (finite height)
      → cell t (efficiency_at m) ≡ efficiency_value (gain_of (cell_call f m 90) height)
  pub left : (m : ℕ) → the_antenna.first f ≤ m → m ≤ the_antenna.last f → (height : Float) → T (finite height)
      → carried_at_row the_antenna f h (suc m) ≡ height_left (gain_of (cell_call f m 90) height) height

-- of all accepted cards of a run, which begins at the height 0
abbrev pub TablesOfCalls : List (Entry the_antenna) → List Outcome → Type 0
TablesOfCalls entries outcomes =
    (j : ℕ) (f : Fields) → Accepted the_antenna entries outcomes j f → TableOfCalls f (carried the_antenna (num 0 1) entries outcomes j) (outcome_at outcomes j).table
