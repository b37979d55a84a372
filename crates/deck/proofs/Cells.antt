-- The call of a cell, by what holds for its row. Assumes nothing.
use mathlib.Core.Path.{◌≡◌, refl, ap, ◌∙◌}
use mathlib.Core.Bool.{Bool, true, false}
use mathlib.Core.Logic.{◌⊎◌, inl, inr}
use Prim.Native.Nat.{ℕ, suc, ◌<◌}
use lib.Ieee.{Float, le}
use lib.Ieee.Bits.{is_true, is_false}
use Rattle.single.specs.Single.{num, whole}
use Rattle.angles.specs.Angles.{wave_of}
use Rattle.rows.specs.Row.{height_for, row_of}
use Rattle.rows.specs.declared.row.Row.{Row}
use Rattle.std.specs.Prelude.{Option, Some, None}
use Rattle.rows.proofs.Height.{Own, row_own}
use Rattle.integrals.specs.Settled.{unsettled_number, settled_value}
use Rattle.integrals.specs.declared.settled.Settled.{Settled}
use Rattle.cells.specs.Cell.{blends_with_zenith}
use Rattle.gain_core.specs.Core.{zenith_gain_for, above_from, above_ground, at_ground}
use Rattle.gain_core.proofs.Laws.{above, below}
use Rattle.independence.specs.Antenna.{Answer}
use Rattle.deck.proofs.Degrees.{elevation_not_at_ground, elevation_ground}
use Rattle.cards.specs.declared.card.Card.{Card}
use Rattle.deck.specs.Columns.{elevation_at, column_at}
use Rattle.cards.specs.Card.{antenna_for}
use Rattle.deck.specs.Call.{answer_of, call_of}
use Rattle.deck.specs.Row.{ground_cell, cell_at}

module _ (c : Card) (m : ℕ) where
  pub call_above : (d : ℕ) (h : Float) → d < 90
      → call_of c m (suc d) h ≡ answer_of (above_ground (antenna_for c) (whole m) (elevation_at (suc d)) (column_at (suc d)))
  unfolding call_of
  call_above d h k =
      let high = is_false (le (elevation_at (suc d)) (num 0 1)) (elevation_not_at_ground d k) in
      ap answer_of (above (antenna_for c) (whole m) (elevation_at (suc d)) (column_at (suc d)) h high)

  pub call_ground : (h : Float) → call_of c m 0 h ≡ answer_of (at_ground (antenna_for c) (whole m) (column_at 0) h)
  unfolding call_of
  call_ground h = ap answer_of (below (antenna_for c) (whole m) (elevation_at 0) (column_at 0) h (is_true (le (elevation_at 0) (num 0 1)) elevation_ground))

  abbrev blends : Bool
  blends = blends_with_zenith (antenna_for c).kind

  abbrev ground : Float → Answer
  ground h = answer_of (at_ground (antenna_for c) (whole m) (column_at 0) h)

  at_ground_lem : (h : Float) (P : Answer → Type 0) → ((up : Bool) → blends ≡ up → P (ground h)) → P (call_of c m 0 h)
  at_ground_lem h P by = rw (call_ground h) (by blends refl)

  -- the call at d degrees above the ground, of what is found of its row
  abbrev answer_from : ℕ → Option (Settled Row) → Answer
  answer_from d r = answer_of (above_from (antenna_for c) (elevation_at (suc d)) (column_at (suc d)) r)

  -- ---- a row whose series do not settle refuses every cell above the ground
  module _ (un : row_of (antenna_for c) (whole m) ≡ None) where
    pub above_unsettled : (d : ℕ) (h : Float) → d < 90 → (call_of c m (suc d) h).refusal ≡ 11
    unfolding above_ground unsettled_number
    above_unsettled d h k = ap (λ (a : Answer). a.refusal) (call_above d h k ∙ ap (answer_from d) un)

    pub ground_unsettled : (h : Float) → ((call_of c m 0 h).refusal ≡ 0) ⊎ ((call_of c m 0 h).refusal ≡ 11)
    unfolding at_ground unsettled_number
    ground_unsettled h =
        at_ground_lem h (λ a. (a.refusal ≡ 0) ⊎ (a.refusal ≡ 11))
        (λ up. elim up as (λ k. blends ≡ k → ((ground h).refusal ≡ 0) ⊎ ((ground h).refusal ≡ 11)) [
          | true ↦ λ e. rw (e, un) (inr refl)
          | false ↦ λ e. rw e (inl refl)
        ])

  -- ---- a row that settles
  module _ (settled : Settled Row) (is : row_of (antenna_for c) (whole m) ≡ Some settled) where
    abbrev row : Row
    row = settled.value

    pub above_settled : (d : ℕ) (h : Float) → d < 90
        → call_of c m (suc d) h
        ≡ record { refusal = 0; gain = cell_at row (zenith_gain_for row) (antenna_for c).azimuth (suc d); efficiency = row.eff; height = row.x }
    unfolding above_ground unsettled_number settled_value
    above_settled d h k = call_above d h k ∙ ap (answer_from d) is

    own : Own (antenna_for c) (whole m) row
    own = rw is at (row_own (antenna_for c) (whole m))

    pub row_height : row.x ≡ height_for (antenna_for c).kind (antenna_for c).leg (wave_of (whole m))
    row_height = own.1

    abbrev Ground : Float → Answer → Type 0
    Ground h a = (a.refusal ≡ 0) × (a.gain ≡ ground_cell (antenna_for c).kind (zenith_gain_for row) (column_at 0) h)

    pub ground_settled : (h : Float) → Ground h (call_of c m 0 h)
    unfolding at_ground zenith_gain_for ground_cell unsettled_number settled_value
    ground_settled h =
        at_ground_lem h (Ground h)
        (λ up. elim up as (λ k. blends ≡ k → Ground h (ground h)) [
          | true ↦ λ e. rw (e, is, ap blends_with_zenith own.0 ∙ e) (refl, refl)
          | false ↦ λ e. rw e (refl, refl)
        ])
