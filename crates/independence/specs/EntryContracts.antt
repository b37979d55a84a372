-- What the filling of a row, the filling of a card and the run of an entry on a deck give: the forms of the contracts. Definitions only.
use Rattle.std.specs.Prelude.{◌≡◌, List, [], ◌∷◌, ℕ, length, Float}
use Rattle.limits.specs.Refusals.{first_refusal}
use Rattle.table.specs.Table.{column_count}
use Rattle.independence.specs.Antenna.{Antenna}
use Rattle.independence.specs.Filling.{height_at, cells_refusal, row_in, card_height, card_refusal, rows_in, rows_of}
use Rattle.independence.specs.Deck.{Deck, Entry, Outcome, deck_tests, malformed_test, found, outcome_on, deck_after}

module _ (A : Antenna) where
  -- The row at m MHz of a card with the incoming height h: `refusal` (0 if none) and the height `left`; the table t becomes t'.
  -- A refused row may leave anything in the table but keeps its length.
  pub record RowDone (c : A.Card) (m : ℕ) (h : Float) (t t' : List Float) (refusal : ℕ) (left : Float) : Type 0 where
    pub verdict : refusal ≡ cells_refusal A c m h column_count
    pub length : length t' ≡ length t
    pub table : refusal ≡ 0 → t' ≡ row_in A c m h t
    pub height : refusal ≡ 0 → left ≡ height_at A c m h column_count

  -- all rows of a card, likewise
  pub record CardDone (c : A.Card) (h : Float) (t t' : List Float) (refusal : ℕ) (left : Float) : Type 0 where
    pub verdict : refusal ≡ card_refusal A c h
    pub length : length t' ≡ length t
    pub table : refusal ≡ 0 → t' ≡ rows_in A c h (rows_of A c) t
    pub height : refusal ≡ 0 → left ≡ card_height A c h

  module _ (limit : ℕ) where
    -- the refusals that come before the work: of a card, and of a malformed line
    unfoldable pub refusal_before_work : Deck → A.Card → List Float → ℕ
    refusal_before_work d c t = first_refusal (deck_tests limit d t (found (A.input_refusal c) ∷ []))

    unfoldable pub malformed_refusal : Deck → List Float → ℕ
    malformed_refusal d t = first_refusal (deck_tests limit d t (malformed_test ∷ []))

    -- an entry on the deck d: its table becomes t'; the verdict v and the deck d' are returned
    pub record EntryDone (d : Deck) (e : Entry A) (t' : List Float) (v : ℕ) (d' : Deck) : Type 0 where
      pub verdict : v ≡ (outcome_on A limit d e).verdict
      pub table : t' ≡ (outcome_on A limit d e).table
      pub deck : d' ≡ deck_after A limit d e

    -- a list of entries in turn, each call on the deck that the one before it returned
    abbrev pub CallsDone : Deck → List (Entry A) → List Outcome → Type 0
    CallsDone d [] [] = Unit {0}
    CallsDone d [] (o ∷ os) = ⊥
    CallsDone d (e ∷ es) [] = ⊥
    CallsDone d (e ∷ es) (o ∷ os) = (d' : Deck) × EntryDone d e o.table o.verdict d' × CallsDone d' es os
