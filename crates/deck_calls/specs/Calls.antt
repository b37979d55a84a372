-- The benchmark's call: a card run on a deck that holds a height and no counts. Definitions only.
use Rattle.std.specs.Prelude.{ℕ, cond, List, eqb, ℤ, length, Float}
use Rattle.parameters.specs.Model.{model_of}
use Rattle.limits.specs.Tests.{length_refusal}
use Rattle.table.specs.Table.{refused_table}
use Rattle.independence.specs.Deck.{Deck, Outcome, outcome_on}
use Rattle.cards.specs.declared.fields.Fields.{Fields}
use Rattle.deck.specs.Antenna.{the_antenna}
use Rattle.deck.specs.Run.{count_limit, card_entry}

abbrev pub fields_of : ℤ → ℤ → ℤ → Float → List Float → ℤ → Fields
fields_of kop first last toaz slots model =
    record { kop = kop; first = first; last = last; toaz = toaz; slots = slots; model = model_of model }

abbrev pub deck_at : Float → Deck
deck_at h = record { height = h; accepted = 0; refused = 0 }

abbrev pub outcome_at : Fields → Float → List Float → Outcome
outcome_at f h t = outcome_on the_antenna count_limit (deck_at h) (card_entry f t)

-- without 20 slots the call is refused by 9 or 7, and the table is a refused card's
unfoldable pub fill_number : Fields → Float → List Float → ℕ
fill_number f h t = cond (eqb (length f.slots) 20) (outcome_at f h t).verdict (length_refusal h)

unfoldable pub filled : Fields → Float → List Float → List Float
filled f h t = cond (eqb (length f.slots) 20) (outcome_at f h t).table (refused_table t)
