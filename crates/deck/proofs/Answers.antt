-- What a run leaves on the deck and its verdict are its whole answer. Assumes nothing.
use mathlib.Core.Path.{◌≡◌}
use mathlib.Core.List.{List}
use lib.Ieee.{Float}
use Rattle.refusals.specs.Refusals.{outcome_number}
use Rattle.refusals.proofs.Refusals.{judged_number}
use Rattle.independence.specs.Deck.{Entry}
use Rattle.independence.specs.EntryContracts.{EntryDone}
use Rattle.deck_state.specs.declared.Deck.{Deck}
use Rattle.deck.specs.declared.run.CardAnswer.{CardAnswer}
use Rattle.deck.specs.Antenna.{the_antenna}
use Rattle.deck.specs.Run.{count_limit, state_of, answer_on}

-- the parts that a run is done by, and the answer whole
pub answered : (deck : Deck) (e : Entry the_antenna) (t : List Float) (r : CardAnswer)
    → EntryDone the_antenna count_limit (state_of deck) e t (outcome_number r.verdict) (state_of r.deck)
    → EntryDone the_antenna count_limit (state_of deck) e t (outcome_number r.verdict) (state_of r.deck) × (r ≡ answer_on deck e)
answered deck e t r done = (done, rw (← done.deck, ← done.verdict, ← judged_number r.verdict))
