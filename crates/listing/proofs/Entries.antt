-- A line on the deck: what its table held before doesn't matter, and an accepted line is a card that is not refused. Assumes nothing.
use mathlib.Core.Path.{◌≡◌, refl, sym, ap, ◌∙◌}
use mathlib.Core.Bool.{Bool, true, false, not}
use mathlib.Core.List.{List, [], ◌∷◌}
use Prim.Native.Nat.{ℕ, zero, suc, ◌+◌, ◌-◌, ◌≤◌}
use native.Mathlib.Omega.{arith}
use borrow.Author.Tests.{eq-eqb}
use lib.ListN.{length}
use lib.IntN.{ℤ, nat_abs}
use lib.Ieee.{Float}
use mir.Syntax.{w32}
use mir.Val.{to_z, of_z}
use Rattle.limits.specs.Refusals.{refuse, first_refusal}
use Rattle.limits.specs.Tests.{height_test}
use Rattle.table.specs.Table.{cleared, is_table, refused_table}
use Rattle.independence.specs.Deck.{Deck, Line, card, malformed, Entry, count_test, line_tests, verdict_on, table_by, deck_by, outcome_on, deck_after}
use Rattle.independence.specs.EntryContracts.{EntryDone}
use Rattle.independence.proofs.Rows.{cleared_length}
use Rattle.independence.proofs.Verdicts.{accepted_passes}
use Rattle.cards.specs.Card.{card_of}
use Rattle.deck.specs.Antenna.{the_antenna}
use Rattle.deck.specs.Run.{count_limit, line_in, line_entry}
use Rattle.deck.proofs.Laws.{the_laws}
use Rattle.deck.proofs.CardRows.{Rows, rows_of}
use Rattle.cards.specs.declared.fields.Fields.{Fields}
use Rattle.cards.specs.Fields.{fields_refusal}
use Rattle.std.proofs.Common.{Option, Some, None, Result, Ok, Err}
use Rattle.std.specs.Result.{is_ok}
use Rattle.refusals.specs.declared.Refusal.{Refusal}
use Rattle.refusals.specs.Refusals.{outcome_number}
use Rattle.refusals.proofs.Refusals.{number_positive}
use Rattle.listing.specs.declared.writing.Writer.{Writer}
use Rattle.listing.specs.Written.{Written}
use Rattle.listing.specs.Text.{rows_text}
use Rattle.listing.specs.Listing.{card_rows, rows_by}
use Rattle.listing.proofs.Buffer.{renamed, no_text}

-- ---- a table of 2,760 numbers is as good as any other
is_table_lem : (t : List Float) → length t ≡ 2760 → is_table t ≡ true
unfolding is_table
is_table_lem t h = eq-eqb (length t) 2760 h

module _ (d : Deck) (l : Line the_antenna) (t : List Float) (h : length t ≡ 2760) where
  abbrev given : Entry the_antenna
  given = record { line = l; table = t }

  abbrev empty : Entry the_antenna
  empty = record { line = l; table = cleared }

  verdict_same : verdict_on the_antenna count_limit d given ≡ verdict_on the_antenna count_limit d empty
  unfolding verdict_on
  verdict_same =
      ap (λ (b : Bool). first_refusal (count_test count_limit d ∷ height_test d.height ∷ refuse 7 (not b) ∷ line_tests the_antenna l d.height))
      (is_table_lem t h ∙ sym (is_table_lem cleared cleared_length))

  table_by_lem : (v : ℕ) → table_by the_antenna count_limit given d.height v ≡ table_by the_antenna count_limit empty d.height v
  unfolding table_by refused_table
  table_by_lem zero = refl
  table_by_lem (suc v) = rw (is_table_lem t h, is_table_lem cleared cleared_length) refl

  deck_by_lem : (v : ℕ) → deck_by the_antenna count_limit given d v ≡ deck_by the_antenna count_limit empty d v
  unfolding deck_by
  deck_by_lem zero = refl
  deck_by_lem (suc v) = refl

  pub entry_same : (t' : List Float) (v : ℕ) (d' : Deck) → EntryDone the_antenna count_limit d given t' v d' → EntryDone the_antenna count_limit d empty t' v d'
  unfolding outcome_on deck_after
  entry_same t' v d' x =
      record {
        verdict = x.verdict ∙ verdict_same;
        table = x.table ∙ table_by_lem (verdict_on the_antenna count_limit d given) ∙ ap (table_by the_antenna count_limit empty d.height) verdict_same;
        deck = x.deck ∙ deck_by_lem (verdict_on the_antenna count_limit d given) ∙ ap (deck_by the_antenna count_limit empty d) verdict_same;
      }

-- ---- a line as it was read, on the deck d
abbrev pub LineRun : Deck → Option Fields → List Float → ℕ → Deck → Type 0
LineRun d l t v d' = EntryDone the_antenna count_limit d (line_entry l cleared) t v d'

pub line_run : (d : Deck) (l : Option Fields) (t t' : List Float) (v : ℕ) (d' : Deck) → length t ≡ 2760
    → EntryDone the_antenna count_limit d (line_entry l t) t' v d' → LineRun d l t' v d'
line_run d l t t' v d' h x = entry_same d (line_in l) t h t' v d' x

pub accepted : (d : Deck) (l : Option Fields) (f : Fields) (t' : List Float) (v : ℕ) (d' : Deck)
    → LineRun d l t' v d' → l ≡ Some f → v ≡ 0 → fields_refusal f ≡ 0
unfolding outcome_on
accepted d l f t' v d' x e z =
    let y : LineRun d (Some f) t' v d' = (rw e at x) in
    (accepted_passes the_antenna the_laws count_limit d f cleared (sym y.verdict ∙ z)).input

-- ---- a verdict and its number
pub accepted_number : (r : Result Unit Refusal) → is_ok r ≡ true → outcome_number r ≡ 0
accepted_number (Ok u) e = refl
accepted_number (Err x) e = absurd (cc)

pub refused_number : (r : Result Unit Refusal) → is_ok r ≡ false → outcome_number r ≡ 0 → ⊥
refused_number (Ok u) e z = cc
refused_number (Err x) e z = omega (arith, number_positive x)

-- ---- what is printed of a line
refused_none : (x : Line the_antenna) (t : List Float) (v : ℕ) → (v ≡ 0 → ⊥) → rows_by x t v ≡ []
refused_none (card f) t zero n = absurd (n refl)
refused_none (card f) t (suc v) n = refl
refused_none malformed t v n = refl

pub refused_rows : (l : Option Fields) (t : List Float) (v : ℕ) (w : Writer) → (v ≡ 0 → ⊥) → w.at ≤ length w.out.now → Written w (rows_by (line_in l) t v) w
refused_rows l t v w n h = renamed (no_text w h) (sym (refused_none (line_in l) t v n))

pub malformed_rows : (l : Option Fields) (t : List Float) (v : ℕ) (w : Writer) → l ≡ None → w.at ≤ length w.out.now → Written w (rows_by (line_in l) t v) w
malformed_rows l t v w e h = rw e (no_text w h)

pub accepted_by : (f : Fields) (l : Option Fields) (t : List Float) (v : ℕ) (w w' : Writer) → l ≡ Some f → v ≡ 0
    → Written w (card_rows f t) w' → Written w (rows_by (line_in l) t v) w'
accepted_by f l t v w w' e z x = rw (e, z) x

abbrev pub back : ℤ → ℕ
back z = nat_abs (to_z w32 (of_z w32 z))

pub rows_in : (f : Fields) → fields_refusal f ≡ 0 → Rows (card_of f) f
rows_in f p = rows_of (card_of f) f refl p

pub accepted_rows : (f : Fields) (t : List Float) (w w' : Writer) → fields_refusal f ≡ 0
    → Written w (rows_text t (back f.first) (back f.last + 1 - back f.first)) w' → Written w (card_rows f t) w'
unfolding card_of
accepted_rows f t w w' p y =
    let r = rows_in f p in
    let first : back f.first ≡ nat_abs f.first = r.first in
    let last : back f.last ≡ nat_abs f.last = r.last in
    let n : back f.last + 1 - back f.first ≡ suc (nat_abs f.last) - nat_abs f.first = omega arith in
    renamed y (ap (λ (m : ℕ). rows_text t m (back f.last + 1 - back f.first)) first ∙ ap (rows_text t (nat_abs f.first)) n)
