-- A row and a card's rows as the code fills them, on plain variables. Assumes nothing.
use mathlib.Core.Path.{◌≡◌, refl, sym, ap, subst, ◌∙◌}
use mathlib.Core.List.{List}
use mathlib.Core.Logic.{inl}
use Prim.Native.Nat.{ℕ, zero, suc, ◌+◌, ◌-◌, ◌*◌, ◌<◌, ◌≤◌}
use native.Mathlib.Omega.{arith}
use native.Mathlib.Numerals.{add-one}
use lib.ListN.{set}
use lib.Ieee.{Float}
use Rattle.single.specs.Single.{whole}
use Rattle.parameters.specs.declared.kind.Kind.{Kind}
use Rattle.integrals.specs.declared.settled.Settled.{Settled}
use Rattle.angles.specs.declared.angles.Elevation.{Elevation}
use Rattle.antennas.specs.declared.antenna.Antenna.{Antenna}
use Rattle.rows.specs.Row.{row_of}
use Rattle.rows.specs.declared.row.Row.{Row}
use Rattle.std.specs.Prelude.{Some, None}
use Rattle.gain_core.specs.Core.{zenith_gain_for}
use Rattle.table.specs.Table.{gain_at}
use Rattle.independence.specs.Antenna.{Answer}
use Rattle.independence.specs.Laws.{Fills}
use Rattle.independence.specs.EntryContracts.{RowDone}
use Rattle.independence.proofs.Loops.{GainsStored, row_refusal, row_start, row_step, row_stops, row_ends}
use Rattle.cards.specs.declared.fields.Fields.{Fields}
use Rattle.deck.specs.Columns.{column_at}
use Rattle.cards.specs.Card.{card_of, antenna_for}
use Rattle.deck.specs.Row.{ground_cell, cell_at, stored_above, RowOfFields}
use Rattle.deck.specs.Antenna.{the_antenna}
use Rattle.deck.proofs.Cells.{above_unsettled, ground_unsettled, above_settled, ground_settled, row_height}
use Rattle.deck.proofs.Laws.{the_laws, left_is}

-- ---- the series do not settle: refusal 11
pub row_unsettled : (a : Antenna) (m : ℕ) (h : Float) (t : List Float) (y : Float) → row_of a (whole m) ≡ None → RowOfFields a m h t t 11 y
row_unsettled a m h t y un f e F =
    let un' : row_of (antenna_for (card_of f)) (whole m) ≡ None = ap (λ (x : Antenna). row_of x (whole m)) (sym e) ∙ un in
    row_stops the_antenna the_laws f m h t t 11 y refl (λ z. omega arith)
    (sym (row_refusal the_antenna the_laws f m h 11 (ground_unsettled (card_of f) m un') (λ d x l. above_unsettled (card_of f) m un' d x l)))

-- ---- the series settle: t₁ has the ground gain, and the gains above it are stored
module _ (f : Fields) (m : ℕ) (F : Fills the_antenna f m) (s : Settled Row) (is : row_of (antenna_for (card_of f)) (whole m) ≡ Some s) where
  abbrev row : Row
  row = s.value

  abbrev gain : ℕ → Float
  gain = cell_at row (zenith_gain_for row) (antenna_for (card_of f)).azimuth

  answer : (d : ℕ) (h : Float) → d < 90
      → the_antenna.call f m (suc d) h ≡ record { refusal = 0; gain = gain (suc d); efficiency = row.eff; height = row.x }
  answer d h k = above_settled (card_of f) m s is d h k

  gains_stored : (t₁ : List Float) (n : ℕ) → n ≤ 90 → GainsStored the_antenna f m t₁ (stored_above gain m n t₁) (suc n)
  unfolding stored_above
  gains_stored t₁ zero l = row_start the_antenna the_laws f m t₁
  gains_stored t₁ (suc n) l =
      rw add-one at
      (row_step the_antenna the_laws f m row.x t₁ _ (suc n) (gain_at m (suc n)) (gain (suc n)) F (gains_stored t₁ n (omega arith)) (omega arith) refl
      (sym (ap (λ (a : Answer). a.gain) (answer n row.x (omega arith)))))

  settled : (h g : Float) (t₀ t : List Float) → g ≡ ground_cell (antenna_for (card_of f)).kind (zenith_gain_for row) (column_at 0) h
      → t ≡ stored_above gain m 90 (set t₀ ((m - 1) * 91) g)
      → RowDone the_antenna f m h t₀ (set t (2730 + (m - 1)) row.eff) 0 row.x
  settled h g t₀ t eg et =
      let t₁ = set t₀ ((m - 1) * 91) g in
      let stored = subst (λ (x : List Float). GainsStored the_antenna f m t₁ x 91) (sym et) (gains_stored t₁ 90 (omega arith)) in
      let ground = ground_settled (card_of f) m s is in
      let none = row_refusal the_antenna the_laws f m h 0 (λ x. inl (ground x).0) (λ d x l. ap (λ (a : Answer). a.refusal) (answer d x l)) in
      row_ends the_antenna the_laws f m h row.x t₀ t ((m - 1) * 91) 91 (2730 + (m - 1)) g row.eff row.x F stored
      (omega arith)
      (sym none)
      (omega arith)
      (eg ∙ sym (ground h).1)
      refl
      (sym (ap (λ (a : Answer). a.efficiency) (answer 89 row.x (omega arith))))
      (row_height (card_of f) m s is ∙ (unfold card_of antenna_for in left_is f m F.passes))

pub row_settled : (a : Antenna) (m : ℕ) (h up g : Float) (kind : Kind) (e₀ : Elevation) (t₀ t : List Float) (s : Settled Row)
    → row_of a (whole m) ≡ Some s
    → kind ≡ a.kind → up ≡ zenith_gain_for s.value → e₀ ≡ column_at 0
    → g ≡ ground_cell kind up e₀ h → t ≡ stored_above (cell_at s.value up a.azimuth) m 90 (set t₀ ((m - 1) * 91) g)
    → RowOfFields a m h t₀ (set t (2730 + (m - 1)) s.value.eff) 0 s.value.x
row_settled a m h up g kind e₀ t₀ t s is ek eu ee eg et f e F =
    settled f m F s (ap (λ (x : Antenna). row_of x (whole m)) (sym e) ∙ is) h g t₀ t
    (eg ∙ (λ i. ground_cell ((ek ∙ ap (λ (x : Antenna). x.kind) e) i) (eu i) (ee i) h))
    (et ∙ (λ i. stored_above (cell_at s.value (eu i) (e i).azimuth) m 90 (set t₀ ((m - 1) * 91) g)))
