-- The refusals before the work: those of the deck and the table, else the entry's own. Assumes nothing.
use mathlib.Core.Path.{◌≡◌, refl, sym, ◌∙◌}
use mathlib.Core.Bool.{Bool, not}
use mathlib.Core.List.{List}
use mathlib.Core.Logic.{◌≢◌}
use native.Mathlib.Omega.{arith}
use Prim.Native.Nat.{ℕ, ◌+◌, ◌<◌}
use lib.Dec.{leb}
use lib.Ieee.{Float}
use lib.Ieee.Scale.{finite}
use Rattle.std.specs.declared.result.Result.{Result}
use Rattle.std.specs.declared.result.Result.TheVariants.{Ok, Err}
use Rattle.refusals.specs.declared.Refusal.{Refusal}
use Rattle.refusals.specs.Refusals.{number_of, IsJudged}
use Rattle.refusals.proofs.Refusals.{number_positive, accepted, refused}
use Rattle.limits.specs.Refusals.{first_refusal}
use Rattle.table.specs.Table.{is_table}
use Rattle.independence.specs.Deck.{Deck}
use Rattle.independence.specs.EntryContracts.{refusal_before_work, malformed_refusal}
use Rattle.independence.proofs.Calls.{found_last, deck_then, deck_then_lem}
use Rattle.deck_state.specs.DeckState.{count_limit, deck_refusal}
use Rattle.cards.specs.declared.fields.Fields.{Fields}
use Rattle.cards.specs.Fields.{fields_refusal}
use Rattle.deck.specs.Antenna.{the_antenna}

first : (a b g : Bool) (r : ℕ) → (deck_then a b g 0 ≢ 0 → deck_then a b g r ≡ deck_then a b g 0) × (deck_then a b g 0 ≡ 0 → deck_then a b g r ≡ r)
first a b g r = deck_then_lem a b g 0 r r (λ p. absurd (p refl), λ p. refl)

pub number_not_zero : (e : Refusal) → number_of e ≢ 0
number_not_zero e z = let p : 0 < number_of e = number_positive e in omega arith

module _ (d : Deck) (t : List Float) where
  abbrev counts : Bool
  counts = leb count_limit (d.accepted + d.refused)

  refuses : {r : Result Unit Refusal} {e : Refusal} → IsJudged (deck_refusal d t) r → r ≡ Err e → deck_refusal d t ≢ 0
  refuses {r} {e} j is z = number_not_zero e (sym (refused j is) ∙ z)

  -- by what the code is answered of the deck and the table
  pub state_refuses : {r : Result Unit Refusal} {e : Refusal} (f : Fields) → IsJudged (deck_refusal d t) r → r ≡ Err e
      → number_of e ≡ refusal_before_work the_antenna count_limit d f t
  unfolding refusal_before_work deck_refusal first_refusal
  state_refuses f j is = sym (refused j is) ∙ sym ((first counts (not (finite d.height)) (not (is_table t)) _).0 (refuses j is))

  pub fields_refuse : {r : Result Unit Refusal} {u : Unit {0}} (f : Fields) → IsJudged (deck_refusal d t) r → r ≡ Ok u
      → refusal_before_work the_antenna count_limit d f t ≡ fields_refusal f
  unfolding refusal_before_work deck_refusal first_refusal
  fields_refuse f j is = (first counts (not (finite d.height)) (not (is_table t)) _).1 (accepted j is) ∙ found_last (fields_refusal f)

  pub state_refuses_malformed : {r : Result Unit Refusal} {e : Refusal} → IsJudged (deck_refusal d t) r → r ≡ Err e
      → number_of e ≡ malformed_refusal the_antenna count_limit d t
  unfolding malformed_refusal deck_refusal first_refusal
  state_refuses_malformed j is = sym (refused j is) ∙ sym ((first counts (not (finite d.height)) (not (is_table t)) 8).0 (refuses j is))

  pub line_refuses : {r : Result Unit Refusal} {u : Unit {0}} → IsJudged (deck_refusal d t) r → r ≡ Ok u → malformed_refusal the_antenna count_limit d t ≡ 8
  unfolding malformed_refusal deck_refusal first_refusal
  line_refuses j is = (first counts (not (finite d.height)) (not (is_table t)) 8).1 (accepted j is)

-- of the deck and the table, then of a card or a malformed line
pub ruleset before_work = (state_refuses, fields_refuse, state_refuses_malformed, line_refuses)
