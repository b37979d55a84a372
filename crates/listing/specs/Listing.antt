-- Document 01 section 10: the whole listing, from the bytes of the input to the bytes of the output. Definitions only.
use Rattle.std.specs.Prelude.{ℕ, zero, suc, List, [], ◌∷◌, ◌++◌, ℤ, pos, Float}
use Rattle.table.specs.Table.{cleared}
use Rattle.independence.specs.Filling.{rows_of}
use Rattle.independence.specs.Deck.{Deck, Line, card, malformed, Entry, Outcome, fresh, outcome_on, deck_after}
use Rattle.deck.specs.Antenna.{the_antenna}
use Rattle.deck.specs.Run.{count_limit, line_entry}
use Rattle.cards.specs.declared.fields.Fields.{Fields}
use Rattle.card_line.specs.Line.{line_of}
use Rattle.listing.specs.Lines.{lines_of}
use Rattle.listing.specs.Text.{heading_text, rows_text, counts_text}

-- ---- a line as an entry of the deck, with a table of 2,760 numbers
unfoldable pub entry_of : List ℕ → Entry the_antenna
entry_of l = line_entry (line_of l) cleared

-- ---- a card's text. "Type: 0 if malformed"
abbrev pub type_of : Line the_antenna → ℤ
type_of (card f) = f.kop
type_of malformed = pos 0

-- the rows of a card, out of its table
abbrev pub card_rows : Fields → List Float → List ℕ
card_rows f table = rows_text table (the_antenna.first f) (rows_of the_antenna f)

-- they are printed where the card is accepted
abbrev pub rows_by : Line the_antenna → List Float → ℕ → List ℕ
rows_by (card f) table zero = card_rows f table
rows_by (card f) table (suc refusal) = []
rows_by malformed table refusal = []

unfoldable pub card_text : ℕ → Line the_antenna → Outcome → List ℕ
card_text place l o = heading_text place (type_of l) o.verdict ++ rows_by l o.table o.verdict

-- ---- the lines in turn, on a deck: n cards have been listed before. Last the counts
unfoldable pub texts_of : ℕ → Deck → List (List ℕ) → List ℕ
unfolding entry_of card_text outcome_on deck_after
texts_of n d [] = counts_text d.accepted d.refused
texts_of n d (l ∷ ls) =
    card_text (suc n) (entry_of l).line (outcome_on the_antenna count_limit d (entry_of l))
    ++ texts_of (suc n) (deck_after the_antenna count_limit d (entry_of l)) ls

unfoldable pub listing : List ℕ → List ℕ
unfolding texts_of lines_of
listing bytes = texts_of 0 fresh (lines_of bytes)
