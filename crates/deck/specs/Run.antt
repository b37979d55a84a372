-- Document 01 section 8: the entries run on a deck; its state and limit passed on. Definitions only.
use Rattle.std.specs.Prelude.{List, ◌+◌, ◌<◌, Float, Option, Some, None, Result, Ok, Err}
use Rattle.refusals.specs.declared.Refusal.{Refusal}
use Rattle.refusals.specs.Refusals.{number_of, judged}
use Rattle.table.specs.Table.{refused_table}
use Rattle.independence.specs.Deck.{Line, Entry, card, malformed, outcome_on, deck_after}
use Rattle.independence.specs.EntryContracts.{EntryDone}
pub use Rattle.deck_state.specs.DeckState.{count_limit, deck_of, state_of, refused_within}
use Rattle.deck_state.specs.declared.Deck.{Deck}
use Rattle.deck.specs.declared.run.CardAnswer.{CardAnswer}
use Rattle.cards.specs.declared.fields.Fields.{Fields}
use Rattle.deck.specs.Antenna.{the_antenna}

abbrev pub card_entry : Fields → List Float → Entry the_antenna
card_entry f t = record { line = card f; table = t }

abbrev pub malformed_entry : List Float → Entry the_antenna
malformed_entry t = record { line = malformed; table = t }

-- a line's entry, by what was read of it: a card's fields, or none of a malformed line
abbrev pub line_in : Option Fields → Line the_antenna
line_in (Some f) = card f
line_in None = malformed

abbrev pub line_entry : Option Fields → List Float → Entry the_antenna
line_entry l t = record { line = line_in l; table = t }

-- the whole answer: the deck left and the verdict
abbrev pub answer_on : Deck → Entry the_antenna → CardAnswer
answer_on deck e =
    let state = state_of deck in
    record { deck = deck_of (deck_after the_antenna count_limit state e); verdict = judged (outcome_on the_antenna count_limit state e).verdict }

-- the answer of a refused entry: the height found is kept
abbrev pub refused_answer : Deck → Refusal → CardAnswer
refused_answer deck e = record { deck = deck_of (refused_within (state_of deck) (number_of e)); verdict = Err e }

-- A card's fields judged and then its rows filled: the table t becomes t'. The entry is done with the height left and a count,
-- or, refused, once the table is cleared
abbrev pub WorkDone : Deck → Fields → List Float → List Float → Result Float Refusal → Type 0
WorkDone deck f t t' (Ok left) =
    (deck.accepted < count_limit)
    × EntryDone the_antenna count_limit (state_of deck) (card_entry f t) t' 0 (record { height = left; accepted = deck.accepted + 1; refused = deck.refused })
WorkDone deck f t t' (Err e) =
    EntryDone the_antenna count_limit (state_of deck) (card_entry f t) (refused_table t') (number_of e) (refused_within (state_of deck) (number_of e))
