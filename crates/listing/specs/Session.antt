-- Document 01 section 10, read in pieces of any size: what is held between them, and what a piece gives. Definitions only.
use Rattle.std.specs.Prelude.{ℕ, suc, ◌+◌, Bool, true, false, cond, ◌&&◌, List, [], ◌∷◌, ◌++◌, ltb, leb, eqb, Float, length, take}
use Rattle.table.specs.Table.{is_table}
use Rattle.independence.specs.Deck.{Deck, fresh, outcome_on, deck_after}
use Rattle.deck.specs.Antenna.{the_antenna}
use Rattle.deck.specs.Run.{count_limit, deck_of, state_of}
use Rattle.listing.specs.declared.session.Session as S
use Rattle.listing.specs.Sizes.{most_held, most_text, most_listed}
use Rattle.listing.specs.Lines.{lines_of}
use Rattle.listing.specs.Text.{counts_text}
use Rattle.listing.specs.Listing.{entry_of, card_text, texts_of}

-- The deck, the number of cards listed, what is held of an unfinished line, and the table
pub record State : Type 0 where
  pub deck : Deck
  pub listed : ℕ
  pub held : List ℕ
  pub table : List Float

-- the state of the code: the first bytes of its buffer are held
abbrev pub state_in : S.Session → List ℕ → List Float → State
state_in s line table = record { deck = state_of s.deck; listed = s.listed; held = take s.held line; table = table }

-- before the first byte: a fresh deck, nothing listed, nothing held
abbrev pub start_of : S.Session
start_of = record { deck = deck_of fresh; listed = 0; held = 0 }

-- ---- a line is gathered
-- one more byte of a line
unfoldable pub grown : List ℕ → ℕ → List ℕ
grown p b = cond (ltb (length p) most_held) (p ++ (b ∷ [])) p

-- whether the line is whole, what is held of it, and what is left of the piece
pub record Gathered : Type 0 where
  pub whole : Bool
  pub held : List ℕ
  pub rest : List ℕ

unfoldable pub gathered : List ℕ → List ℕ → Gathered
unfolding grown
gathered p [] = record { whole = false; held = p; rest = [] }
gathered p (b ∷ bs) = cond (eqb b 10) (record { whole = true; held = p; rest = bs }) (gathered (grown p b) bs)

-- ---- a whole line is listed
-- places print as stars from there on, so the number stops
unfoldable pub counted : ℕ → ℕ
counted n = cond (ltb n most_listed) (suc n) n

unfoldable pub line_text : State → List ℕ → List ℕ
line_text s l = card_text (suc s.listed) (entry_of l).line (outcome_on the_antenna count_limit s.deck (entry_of l))

unfoldable pub after_line : State → List ℕ → State
unfolding counted
after_line s l =
    record {
      deck = deck_after the_antenna count_limit s.deck (entry_of l);
      listed = counted s.listed;
      held = [];
      table = (outcome_on the_antenna count_limit s.deck (entry_of l)).table;
    }

-- ---- a step: at most one line of a piece is taken. Nothing is if the buffers aren't ready
-- what the state becomes, the bytes that now begin the buffer of the line, what is left of the piece, and the text
pub record Step : Type 0 where
  pub state : State
  pub buffer : List ℕ
  pub rest : List ℕ
  pub text : List ℕ

abbrev pub holding : State → List ℕ → State
holding s p = record { deck = s.deck; listed = s.listed; held = p; table = s.table }

abbrev pub step_by : State → Gathered → Step
step_by s g =
    cond g.whole (record { state = after_line s g.held; buffer = g.held; rest = g.rest; text = line_text s g.held })
    (record { state = holding s g.held; buffer = g.held; rest = g.rest; text = [] })

unfoldable pub step_of : Bool → State → List ℕ → Step
step_of ready s piece = cond ready (step_by s (gathered s.held piece)) (record { state = s; buffer = []; rest = piece; text = [] })

-- ---- the end of the input: a line whose line feed is missing, then the counts
abbrev pub end_by : State → List ℕ → State
end_by s [] = s
end_by s (b ∷ p) = after_line s (b ∷ p)

abbrev pub last_text : State → List ℕ → List ℕ
last_text s [] = []
last_text s (b ∷ p) = line_text s (b ∷ p)

abbrev pub counts : Deck → List ℕ
counts d = counts_text d.accepted d.refused

unfoldable pub finish_text : Bool → State → List ℕ
finish_text ready s = cond ready (last_text s s.held ++ counts (end_by s s.held).deck) []

unfoldable pub finish_table : Bool → State → List Float
finish_table ready s = cond ready (end_by s s.held).table s.table

-- ---- what is still to be printed when bs is still to be read
-- a part of a line is a line if it has a byte
abbrev pub ended : List ℕ → List (List ℕ)
ended [] = []
ended (b ∷ p) = (b ∷ p) ∷ []

-- what is held begins the first line
abbrev pub joined : List ℕ → List (List ℕ) → List (List ℕ)
joined p [] = ended p
joined p (l ∷ ls) = (p ++ l) ∷ ls

unfoldable pub remaining : State → List ℕ → List ℕ
remaining s bs = texts_of s.listed s.deck (joined s.held (lines_of bs))

-- ---- the buffers handed to a call
-- they are ready (`Ready`), as a test
unfoldable pub is_ready : List ℕ → List Float → List ℕ → ℕ → Bool
is_ready line table out at = eqb (length line) most_held && is_table table && leb (at + most_text) (length out)
