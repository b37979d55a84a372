-- The judging of a card and the filling of its rows in the code, on plain variables. Assumes nothing.
use mathlib.Core.Path.{◌≡◌, refl, sym}
use mathlib.Core.List.{List}
use native.Mathlib.Omega.{arith}
use lib.Ieee.{Float}
use Rattle.std.specs.declared.result.Result.{Result}
use Rattle.std.specs.declared.result.Result.TheVariants.{Ok, Err}
use Rattle.refusals.specs.declared.Refusal.{Refusal}
use Rattle.refusals.specs.Refusals.{number_of, outcome_number, outcome_values}
use Rattle.refusals.proofs.Refusals.{accepted, refused}
use Rattle.table.specs.Table.{refused_table}
use Rattle.independence.specs.EntryContracts.{CardDone, EntryDone, refusal_before_work, malformed_refusal}
use Rattle.independence.proofs.Calls.{none_before_work, room_before_work, room_malformed, entry_refused_before, entry_malformed, entry_refused, entry_accepted}
use Rattle.deck_state.specs.declared.Deck.{Deck}
use Rattle.deck_state.proofs.Counts.{within}
use Rattle.cards.specs.declared.fields.Fields.{Fields}
use Rattle.deck.specs.Antenna.{the_antenna}
use Rattle.deck.specs.Run.{count_limit, state_of, malformed_entry, refused_within, WorkDone}
use Rattle.deck.proofs.BeforeWork.{number_not_zero}
use Rattle.deck.proofs.Laws.{the_laws}

module _ (deck : Deck) (t : List Float) where
  -- a malformed line
  pub malformed_done : (e : Refusal) → number_of e ≡ malformed_refusal the_antenna count_limit (state_of deck) t
      → EntryDone the_antenna count_limit (state_of deck) (malformed_entry t) (refused_table t) (number_of e) (refused_within (state_of deck) (number_of e))
  malformed_done e s =
      let d = state_of deck in
      entry_malformed the_antenna the_laws count_limit d t (refused_table t) (number_of e) (refused_within d (number_of e)) s refl
      (within d (number_of e) (λ ne. room_malformed the_antenna the_laws count_limit d t (number_of e) s ne))

module _ (deck : Deck) (f : Fields) (t : List Float) where
  pub work_refused_before : (e : Refusal) → number_of e ≡ refusal_before_work the_antenna count_limit (state_of deck) f t → WorkDone deck f t t (Err e)
  work_refused_before e s =
      let d = state_of deck in
      entry_refused_before the_antenna the_laws count_limit d f t (refused_table t) (number_of e) (refused_within d (number_of e)) s (number_not_zero e) refl
      (within d (number_of e) (λ ne. room_before_work the_antenna the_laws count_limit d f t (number_of e) s ne))

  -- the table was cleared to t₁ and filled to t'
  pub work_done : (t₁ t' : List Float) → refusal_before_work the_antenna count_limit (state_of deck) f t ≡ 0 → t₁ ≡ refused_table t → (r : Result Float Refusal)
      → CardDone the_antenna f deck.height t₁ t' (outcome_number r) (outcome_values deck.height r) → WorkDone deck f t t' r
  work_done t₁ t' none p (Ok left) done =
      let room = (none_before_work the_antenna the_laws count_limit (state_of deck) f t none).room in
      (omega (arith, room), entry_accepted the_antenna the_laws count_limit (state_of deck) f t t₁ t' 0 left (sym none) p done refl)
  work_done t₁ t' none p (Err e) done =
      let d = state_of deck in
      entry_refused the_antenna the_laws count_limit d f t t₁ t' (refused_table t') (number_of e) deck.height (refused_within d (number_of e))
      (sym none) p done (number_not_zero e) refl
      (within d (number_of e) (λ ne. (none_before_work the_antenna the_laws count_limit d f t none).room))

pub ruleset work = (accepted, refused, work_refused_before, work_done)
