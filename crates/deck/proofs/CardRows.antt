-- The loop over a card's rows, on plain variables. `to_z w32 (of_z w32 n)` is how the machine reads a signed number back. Assumes nothing.
use mathlib.Core.Path.{◌≡◌, sym, ap, subst, ◌∙◌}
use mathlib.Core.List.{List}
use mathlib.Core.Logic.{◌≢◌}
use Prim.Native.Nat.{ℕ, suc, ◌+◌, ◌-◌, ◌<◌, ◌≤◌}
use native.Mathlib.Omega.{arith}
use lib.Dec.{T}
use lib.IntN.{ℤ, pos, nat_abs}
use lib.Signed.{non_neg}
use lib.Ieee.{Float}
use mir.Syntax.{w32, w64}
use mir.Val.{Fits, of_z, to_z}
use mir.ValLaws.{to_z-of_z}
use Rattle.antennas.specs.declared.antenna.Antenna.{Antenna}
use Rattle.independence.specs.Laws.{Fills}
use Rattle.independence.specs.EntryContracts.{RowDone, CardDone}
use Rattle.independence.proofs.Loops.{CardInv, card_start, card_step, card_stops, card_ends}
use Rattle.cards.specs.declared.card.Card.{Card}
use Rattle.cards.specs.declared.fields.Fields.{Fields}
use Rattle.cards.specs.Fields.{fields_refusal}
use Rattle.cards.specs.Card.{card_of, antenna_for}
use Rattle.deck.specs.Row.{RowOfFields}
use Rattle.deck.specs.Antenna.{the_antenna}
use Rattle.deck.proofs.Passes.{in_range_lem}
use Rattle.deck.proofs.Laws.{the_laws}

abbrev back : ℤ → ℤ
back n = to_z w32 (of_z w32 n)

back_is : (n : ℤ) → n ≡ pos (nat_abs n) → nat_abs n ≤ 30 → back n ≡ n
back_is n e l = ap back e ∙ to_z-of_z w32 (pos (nat_abs n)) (record { sfits = omega arith }) ∙ sym e

fits_at : (a n : ℤ) → a ≡ n → n ≡ pos (nat_abs n) → nat_abs n ≤ 30 → T (non_neg a) × Fits w64 (nat_abs a)
fits_at a n p e l =
    let f : T (non_neg (pos (nat_abs n))) × Fits w64 (nat_abs n) = (tt, omega arith) in
    subst (λ (z : ℤ). T (non_neg z) × Fits w64 (nat_abs z)) (sym (p ∙ e)) f

-- ---- the first and last MHz of a card, and its rows
abbrev pub first_of : Card → ℕ
first_of c = nat_abs (back c.first)

abbrev pub last_of : Card → ℕ
last_of c = nat_abs (back c.last)

pub record Rows (c : Card) (f : Fields) : Type 0 where
  pub first : first_of c ≡ nat_abs f.first
  pub last : last_of c ≡ nat_abs f.last
  pub low : 1 ≤ first_of c
  pub order : first_of c ≤ last_of c
  pub high : last_of c ≤ 30
  pub first_fits : T (non_neg (back c.first)) × Fits w64 (first_of c)
  pub last_fits : T (non_neg (back c.last)) × Fits w64 (last_of c)

pub rows_of : (c : Card) (f : Fields) → c ≡ card_of f → fields_refusal f ≡ 0 → Rows c f
unfolding card_of
rows_of c f e p =
    let r = in_range_lem f p in
    let first : back c.first ≡ f.first = ap (λ (x : Card). back x.first) e ∙ back_is f.first r.first_whole (omega (arith, r.order, r.high)) in
    let last : back c.last ≡ f.last = ap (λ (x : Card). back x.last) e ∙ back_is f.last r.last_whole r.high in
    let first' : first_of c ≡ nat_abs f.first = ap nat_abs first in
    let last' : last_of c ≡ nat_abs f.last = ap nat_abs last in
    record {
      first = first';
      last = last';
      low = omega (arith, r.low, first');
      order = omega (arith, r.order, first', last');
      high = omega (arith, r.high, last');
      first_fits = fits_at _ f.first first r.first_whole (omega (arith, r.order, r.high));
      last_fits = fits_at _ f.last last r.last_whole r.high;
    }

-- ---- the loop: a card's antenna, its first and last MHz, as they are read from the fields f
pub record RowsOf (a : Antenna) (first last : ℕ) (f : Fields) : Type 0 where
  pub antenna : a ≡ antenna_for (card_of f)
  pub passes : fields_refusal f ≡ 0
  pub first_is : first ≡ nat_abs f.first
  pub last_is : last ≡ nat_abs f.last

pub rows_read : (c : Card) (a : Antenna) (f : Fields) → c ≡ card_of f → a ≡ antenna_for c → fields_refusal f ≡ 0
    → RowsOf a (first_of c) (last_of c) f
rows_read c a f e ea p =
    let at = rows_of c f e p in
    record { antenna = ea ∙ ap antenna_for e; passes = p; first_is = at.first; last_is = at.last }

module _ (a : Antenna) (first last : ℕ) (f : Fields) (of : RowsOf a first last f) (h : Float) (t₀ : List Float) where
  -- x the height, t the table before the row at m MHz
  abbrev pub Before : (x : Float) (t : List Float) (m : ℕ) → Type 0
  Before x t m = CardInv the_antenna f h t₀ t x (m - first)

  pub rows_start : Before h t₀ first
  rows_start = let none : first - first ≡ 0 = omega arith in rw none (card_start the_antenna the_laws f h t₀)

  pub rows_end : (x : Float) (t : List Float) (m : ℕ) → Before x t m → last < m → CardDone the_antenna f h t₀ t 0 x
  rows_end x t m i l = card_ends the_antenna the_laws f h t₀ t x (m - first) i (omega (arith, of.first_is, of.last_is))

  -- the row at m MHz, after those below it
  module _ (x y : Float) (t t' : List Float) (m r : ℕ) (i : Before x t m) (low : first ≤ m) (high : m ≤ last)
      (row : RowOfFields a m x t t' r y) where
    row_done : RowDone the_antenna f (nat_abs f.first + (m - first)) x t t' r y
    row_done =
        let at : m ≡ nat_abs f.first + (m - first) = omega (arith, of.first_is) in
        let fills : Fills the_antenna f m = record { passes = of.passes; low = omega (arith, of.first_is); high = omega (arith, of.last_is) } in
        subst (λ (k : ℕ). RowDone the_antenna f k x t t' r y) at (row f of.antenna fills)

    place : m - first < suc (nat_abs f.last) - nat_abs f.first
    place = omega (arith, of.first_is, of.last_is)

    pub rows_step : r ≡ 0 → Before y t' (m + 1)
    rows_step z =
        let next : m - first + 1 ≡ m + 1 - first = omega arith in
        subst (CardInv the_antenna f h t₀ t' y) next (card_step the_antenna the_laws f h t₀ t t' x y (m - first) r i place row_done z)

    pub rows_last : r ≡ 0 → last ≤ m → CardDone the_antenna f h t₀ t' 0 y
    rows_last z l = rows_end y t' (m + 1) (rows_step z) (omega arith)

    pub rows_stop : (z : Float) → r ≢ 0 → CardDone the_antenna f h t₀ t' r z
    rows_stop z bad = card_stops the_antenna the_laws f h t₀ t t' x y z (m - first) r i place row_done bad
