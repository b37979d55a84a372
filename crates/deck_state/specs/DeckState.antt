-- Document 01 section 8: a deck's carried height and counts, what it refuses of an entry, and a refused entry's count. Definitions only.
use Rattle.std.specs.Prelude.{ℕ, ◌+◌, Bool, cond, List, [], leb, Float}
use Rattle.limits.specs.Refusals.{first_refusal}
use Rattle.independence.specs.Deck.{Deck, deck_tests, refused_deck}
use Rattle.deck_state.specs.declared.Deck as D

-- refusal 10 begins here
abbrev pub count_limit : ℕ
count_limit = 1000000

abbrev pub state_of : D.Deck → Deck
state_of d = record { height = d.height; accepted = d.accepted; refused = d.refused }

-- and back: the two hold the same
abbrev pub deck_of : Deck → D.Deck
deck_of d = record { height = d.height; accepted = d.accepted; refused = d.refused }

abbrev pub is_full : Deck → Bool
is_full d = leb count_limit (d.accepted + d.refused)

-- 10, 9 and 7
unfoldable pub deck_refusal : Deck → List Float → ℕ
deck_refusal d t = first_refusal (deck_tests count_limit d t [])

-- the deck after a refusal by v; a full deck's counts stay
unfoldable pub refused_within : Deck → ℕ → Deck
refused_within d v = cond (is_full d) d (refused_deck d v)
