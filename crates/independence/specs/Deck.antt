-- Document 01 section 8: an entry run on a deck, and a list of entries run in turn. Definitions only.
use Rattle.std.specs.Prelude.{ℕ, zero, suc, ◌+◌, true, not, cond, List, [], ◌∷◌, leb, eqb, Float}
use Rattle.single.specs.Single.{num}
use Rattle.limits.specs.Refusals.{Test, refuse, first_refusal}
use Rattle.limits.specs.Tests.{height_test}
use Rattle.table.specs.Table.{cleared, refused_table, length_test}
use Rattle.independence.specs.Antenna.{Antenna}
use Rattle.independence.specs.Filling.{card_height, card_refusal, card_table}

-- ---- the term "deck": the carried height and the counts of accepted and refused cards
pub record Deck : Type 0 where
  pub height : Float
  pub accepted : ℕ
  pub refused : ℕ

-- "a fresh one holds zeros"
abbrev pub fresh : Deck
fresh = record { height = num 0 1; accepted = 0; refused = 0 }

-- the deck after a refusal by v: 10 alone raises no count
unfoldable pub refused_deck : Deck → ℕ → Deck
refused_deck d v = record { height = d.height; accepted = d.accepted; refused = cond (eqb v 10) d.refused (suc d.refused) }

-- ---- a list's entries: a card or a malformed line, each with its table of any length and content
pub data Line (A : Antenna) : Type 0 where
  card : A.Card → Line A
  malformed : Line A

pub record Entry (A : Antenna) : Type 0 where
  pub line : Line A
  pub table : List Float

-- ---- the tests of the deck and the table, and a refusal already found (0 is none) as a test
abbrev pub count_test : ℕ → Deck → Test
count_test limit d = refuse 10 (leb limit (d.accepted + d.refused))

abbrev pub malformed_test : Test
malformed_test = refuse 8 true

abbrev pub found : ℕ → Test
found number = refuse number (not (eqb number 0))

-- Order: 10, 9, 7, then the others
abbrev pub deck_tests : ℕ → Deck → List Float → List Test → List Test
deck_tests limit d t others = count_test limit d ∷ height_test d.height ∷ length_test t ∷ others

-- ---- the tests of an entry's own: 7, then 8 of a malformed line, 1 to 5 and 11 of a card; and what it leaves if it is accepted, as no malformed line is
module _ (A : Antenna) where
  abbrev pub line_tests : Line A → Float → List Test
  line_tests (card c) h = found (A.input_refusal c) ∷ found (card_refusal A c h) ∷ []
  line_tests malformed h = malformed_test ∷ []

  abbrev pub own_tests : Entry A → Float → List Test
  own_tests e h = length_test e.table ∷ line_tests e.line h

  abbrev pub line_table : Line A → Float → List Float
  line_table (card c) h = card_table A c h
  line_table malformed h = cleared

  abbrev pub line_height : Line A → Float → Float
  line_height (card c) h = card_height A c h
  line_height malformed h = h

-- what is compared of an entry: its table as it leaves it, and the term "verdict": the refusal number, 0 if accepted
pub record Outcome : Type 0 where
  pub verdict : ℕ
  pub table : List Float

-- how many are accepted, and how many refused
unfoldable pub accepted_in : List Outcome → ℕ
accepted_in [] = 0
accepted_in (o ∷ os) = cond (eqb o.verdict 0) (suc (accepted_in os)) (accepted_in os)

unfoldable pub refused_in : List Outcome → ℕ
refused_in [] = 0
refused_in (o ∷ os) = cond (eqb o.verdict 0) (refused_in os) (suc (refused_in os))

-- ---- an entry on a deck, and a list of entries in turn, where refusal 10 begins at `limit`
module _ (A : Antenna) (limit : ℕ) where
  -- the deck and table's, then the line's
  unfoldable pub verdict_on : Deck → Entry A → ℕ
  verdict_on d e = first_refusal (deck_tests limit d e.table (line_tests A e.line d.height))

  -- the table and the deck by the verdict
  unfoldable pub table_by : Entry A → Float → ℕ → List Float
  table_by e h zero = line_table A e.line h
  table_by e h (suc v) = refused_table e.table

  unfoldable pub deck_by : Entry A → Deck → ℕ → Deck
  deck_by e d zero = record { height = line_height A e.line d.height; accepted = suc d.accepted; refused = d.refused }
  deck_by e d (suc v) = refused_deck d (suc v)

  unfoldable pub outcome_on : Deck → Entry A → Outcome
  outcome_on d e = record { verdict = verdict_on d e; table = table_by e d.height (verdict_on d e) }

  unfoldable pub deck_after : Deck → Entry A → Deck
  deck_after d e = deck_by e d (verdict_on d e)

  -- the first entry is run on the deck d, each later one on the deck that the one before it returned
  unfoldable pub run : Deck → List (Entry A) → List Outcome
  run d [] = []
  run d (e ∷ es) = outcome_on d e ∷ run (deck_after d e) es

  unfoldable pub deck_after_all : Deck → List (Entry A) → Deck
  deck_after_all d [] = d
  deck_after_all d (e ∷ es) = deck_after_all (deck_after d e) es

-- a list without its entry k, from 0; k beyond it removes none
unfoldable pub without : {X : Type 0} → ℕ → List X → List X
without k [] = []
without zero (x ∷ xs) = xs
without (suc k) (x ∷ xs) = x ∷ without k xs
