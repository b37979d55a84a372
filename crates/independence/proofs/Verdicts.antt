-- An entry on a deck, over any antenna that keeps the laws: its verdict, the deck after it, and its outcome from two heights. Assumes nothing.
use mathlib.Core.Path.{◌≡◌, refl, sym, ap, ap₂, ◌∙◌, subst}
use mathlib.Core.Bool.{Bool, true, false, not, cond}
use mathlib.Core.List.{List}
use Prim.Native.Nat.{ℕ, zero, suc, ◌+◌, ◌-◌, ◌≤◌}
use native.Mathlib.Omega.{arith}
use lib.ListN.{length}
use lib.Dec.{T, eqb, leb, eqb-suc-zero}
use lib.Ieee.{Float}
use lib.Ieee.Bits.{is_true}
use lib.Ieee.Scale.{finite}
use borrow.Author.Tests.{lt-leb, not-false}
use Rattle.single.specs.Single.{num}
use Rattle.limits.specs.Refusals.{first_refusal}
use Rattle.table.specs.Table.{gain_at, cleared, is_table}
use Rattle.independence.specs.Antenna.{Antenna, carries_height, height_left}
use Rattle.independence.specs.Laws.{Fills, Laws}
use Rattle.independence.specs.Filling.{rows_of, rows_refusal, card_refusal, card_table, rows_in}
use Rattle.independence.specs.Deck.{Deck, refused_deck, Line, card, malformed, Entry, own_tests, verdict_on, table_by, deck_by, outcome_on, deck_after}
use Rattle.independence.specs.Demand3.{cell, SameBut, carried_after_rows, carried_after_entry}
use Rattle.independence.proofs.Rows.{cleared_length, rows_refusal_same, height_carried, rows_length, rows_same, rows_steady, agree_elsewhere}

-- ---- lists of tests
pub passed : (b : Bool) (n r : ℕ) → cond b (suc n) r ≡ 0 → (b ≡ false) × (r ≡ 0)
passed true n r e = let z : ⊥ = omega arith in absurd z
passed false n r e = (refl, e)

pub none_found : (n r : ℕ) → cond (not (eqb n 0)) n r ≡ 0 → (n ≡ 0) × (r ≡ 0)
none_found zero r e = (refl, e)
none_found (suc n) r e = let z : suc n ≡ 0 = rw (eqb-suc-zero n) at e in let f : ⊥ = omega arith in absurd f

-- a deck on which n more entries are judged by their own tests alone
pub record Fit (limit : ℕ) (d : Deck) (n : ℕ) : Type 0 where
  pub height : T (finite d.height)
  pub room : d.accepted + d.refused + n ≤ limit

-- a card that is accepted with the incoming height h, if its table and the deck allow
pub record Passes (A : Antenna) (c : A.Card) (h : Float) : Type 0 where
  pub input : A.input_refusal c ≡ 0
  pub calls : card_refusal A c h ≡ 0

-- cell i of an entry with the verdict v depends on the incoming height
pub record DependsOnHeight (A : Antenna) (e : Entry A) (v : ℕ) (i : ℕ) : Type 0 where
  pub the_card : A.Card
  pub is_card : e.line ≡ card the_card
  pub verdict : v ≡ 0
  pub type : T (carries_height (A.type_of the_card))
  pub on_ground : i ≡ gain_at (A.first the_card) 0

module _ (A : Antenna) (L : Laws A) (limit : ℕ) where
  pub verdict_own : (d : Deck) (n : ℕ) (e : Entry A) → Fit limit d (suc n) → verdict_on A limit d e ≡ first_refusal (own_tests A e d.height)
  unfolding verdict_on first_refusal
  verdict_own d n e f =
      rw (lt-leb limit (d.accepted + d.refused) (omega (arith, f.room)), is_true (finite d.height) f.height) refl

  -- ---- an accepted entry is a card that passes
  own_passes : (c : A.Card) (t : List Float) (h : Float) → first_refusal (own_tests A (record { line = card c; table = t }) h) ≡ 0 → Passes A c h
  unfolding first_refusal
  own_passes c t h e =
      let a = none_found (A.input_refusal c) (cond (not (eqb (card_refusal A c h) 0)) (card_refusal A c h) 0) (passed (not (is_table t)) 6 _ e).1 in
      record { input = a.0; calls = (none_found (card_refusal A c h) 0 a.1).0 }

  pub accepted_own : (d : Deck) (e : Entry A) → verdict_on A limit d e ≡ 0 → first_refusal (own_tests A e d.height) ≡ 0
  unfolding verdict_on first_refusal
  accepted_own d e p = (passed (not (finite d.height)) 8 _ (passed (leb limit (d.accepted + d.refused)) 9 _ p).1).1

  pub accepted_finite : (d : Deck) (e : Entry A) → verdict_on A limit d e ≡ 0 → T (finite d.height)
  unfolding verdict_on first_refusal
  accepted_finite d e p = subst T (sym (not-false (finite d.height) (passed (not (finite d.height)) 8 _ (passed (leb limit (d.accepted + d.refused)) 9 _ p).1).0)) tt

  pub accepted_passes : (d : Deck) (c : A.Card) (t : List Float) → verdict_on A limit d (record { line = card c; table = t }) ≡ 0 → Passes A c d.height
  accepted_passes d c t p = own_passes c t d.height (accepted_own d (record { line = card c; table = t }) p)

  pub malformed_refused : (d : Deck) (t : List Float) → verdict_on A limit d (record { line = malformed; table = t }) ≡ 0 → ⊥
  unfolding first_refusal
  malformed_refused d t p = let e = (passed (not (is_table t)) 6 8 (accepted_own d (record { line = malformed; table = t }) p)).1 in let z : ⊥ = omega arith in z

  -- at least one row
  pub some_rows : (c : A.Card) → A.input_refusal c ≡ 0 → (rows_of A c ≡ suc (A.last c - A.first c)) × (A.first c + (A.last c - A.first c) ≡ A.last c)
  some_rows c p = let r = L.range c p in (omega (arith, r), omega (arith, r))

  -- ---- the verdict does not depend on the height
  card_refusal_same : (c : A.Card) (h h' : Float) → A.input_refusal c ≡ 0 → card_refusal A c h ≡ card_refusal A c h'
  card_refusal_same c h h' p = rows_refusal_same A L c h h' (rows_of A c) p (omega (arith, L.range c p))

  own_same_line : (l : Line A) (t : List Float) (h h' : Float)
      → first_refusal (own_tests A (record { line = l; table = t }) h) ≡ first_refusal (own_tests A (record { line = l; table = t }) h')
  unfolding first_refusal
  own_same_line malformed t h h' = refl
  own_same_line (card c) t h h' = ap (λ (v : ℕ). cond (not (is_table t)) 7 v) (go (A.input_refusal c) (card_refusal_same c h h'))
    where
      go : (n : ℕ) → (n ≡ 0 → card_refusal A c h ≡ card_refusal A c h')
          → cond (not (eqb n 0)) n (cond (not (eqb (card_refusal A c h) 0)) (card_refusal A c h) 0) ≡ cond (not (eqb n 0)) n (cond (not (eqb (card_refusal A c h') 0)) (card_refusal A c h') 0)
      go zero same = ap (λ (v : ℕ). cond (not (eqb v 0)) v 0) (same refl)
      go (suc n) same = rw (eqb-suc-zero n) refl

  pub own_same : (e : Entry A) (h h' : Float) → first_refusal (own_tests A e h) ≡ first_refusal (own_tests A e h')
  own_same e h h' = own_same_line e.line e.table h h'

  -- ---- the height after an entry is the recursion's, and finite
  pub card_leaves : (c : A.Card) (h : Float) → A.input_refusal c ≡ 0 → carried_after_rows A c h (rows_of A c) ≡ height_left A c (A.last c)
  unfolding carried_after_rows
  card_leaves c h p = let s = some_rows c p in ap (carried_after_rows A c h) s.0 ∙ ap (height_left A c) s.1

  pub last_fills : (c : A.Card) → A.input_refusal c ≡ 0 → Fills A c (A.last c)
  last_fills c p = record { passes = p; low = (L.range c p).1; high = omega arith }

  past_line : (l : Line A) (t : List Float) (d : Deck) (v : ℕ) → verdict_on A limit d (record { line = l; table = t }) ≡ v
      → ((deck_by A limit (record { line = l; table = t }) d v).height ≡ carried_after_entry A l v d.height) × (T (finite d.height) → T (finite (carried_after_entry A l v d.height)))
  unfolding deck_by refused_deck
  past_line (card c) t d zero e =
      let p = accepted_passes d c t e in (
        height_carried A L c d.height (rows_of A c) p.input (omega (arith, L.range c p.input)) p.calls,
        λ f. subst (λ (x : Float). T (finite x)) (sym (card_leaves c d.height p.input)) (L.finite_height c (A.last c) (last_fills c p.input)),
      )
  past_line (card c) t d (suc v) e = (refl, λ f. f)
  past_line malformed t d zero e = (refl, λ f. f)
  past_line malformed t d (suc v) e = (refl, λ f. f)

  pub height_past : (d : Deck) (e : Entry A) → (deck_after A limit d e).height ≡ carried_after_entry A e.line (verdict_on A limit d e) d.height
  unfolding deck_after
  height_past d e = (past_line e.line e.table d (verdict_on A limit d e) refl).0

  -- ---- one entry takes one place
  cond_le : (b : Bool) (n : ℕ) → cond b n (suc n) ≤ suc n
  cond_le true n = omega arith
  cond_le false n = omega arith

  room_after : (e : Entry A) (d : Deck) (n v : ℕ) → d.accepted + d.refused + suc n ≤ limit
      → (deck_by A limit e d v).accepted + (deck_by A limit e d v).refused + n ≤ limit
  unfolding deck_by refused_deck
  room_after e d n zero h = omega arith
  room_after e d n (suc v) h = omega (arith, cond_le (eqb (suc v) 10) d.refused)

  pub fit_after : (d : Deck) (n : ℕ) (e : Entry A) → Fit limit d (suc n) → Fit limit (deck_after A limit d e) n
  unfolding deck_after
  fit_after d n e f =
      record {
        height = subst (λ (h : Float). T (finite h)) (sym (height_past d e)) ((past_line e.line e.table d (verdict_on A limit d e) refl).1 f.height);
        room = room_after e d n (verdict_on A limit d e) f.room;
      }

  -- ---- a table from two heights
  card_table_length : (c : A.Card) (h : Float) → length (card_table A c h) ≡ 2760
  card_table_length c h = rows_length A L c h (rows_of A c) cleared ∙ cleared_length

  card_cells : (c : A.Card) (h h' : Float) → Passes A c h → (i : ℕ) → (T (carries_height (A.type_of c)) × (i ≡ gain_at (A.first c) 0) → ⊥)
      → cell (card_table A c h) i ≡ cell (card_table A c h') i
  card_cells c h h' p i other = at_rows (rows_of A c) s.0 p.calls
    where
      s : (rows_of A c ≡ suc (A.last c - A.first c)) × (A.first c + (A.last c - A.first c) ≡ A.last c)
      s = some_rows c p.input

      go : rows_refusal A c h (suc (A.last c - A.first c)) ≡ 0 → (b : Bool) → (T (not b) → T (not (carries_height (A.type_of c))))
          → (T b × (i ≡ gain_at (A.first c) 0) → ⊥)
          → cell (rows_in A c h (suc (A.last c - A.first c)) cleared) i ≡ cell (rows_in A c h' (suc (A.last c - A.first c)) cleared) i
      go e true steady o =
          agree_elsewhere A L (rows_in A c h (suc (A.last c - A.first c)) cleared) (rows_in A c h' (suc (A.last c - A.first c)) cleared) (gain_at (A.first c) 0) i (num 0 1)
          (rows_same A L c h h' (A.last c - A.first c) cleared (num 0 1) p.input (omega (arith, s)) e) (λ q. o (tt, q))
      go e false steady o =
          ap (λ (t : List Float). cell t i) (rows_steady A L c h h' (A.last c - A.first c) cleared cleared_length p.input (omega (arith, s)) e (steady tt))

      at_rows : (k : ℕ) → k ≡ suc (A.last c - A.first c) → rows_refusal A c h k ≡ 0 → cell (rows_in A c h k cleared) i ≡ cell (rows_in A c h' k cleared) i
      at_rows k q = rw q (λ e. go e (carries_height (A.type_of c)) (λ t. t) other)

  tables_line : (l : Line A) (t : List Float) (d : Deck) (h' : Float) (v : ℕ) → verdict_on A limit d (record { line = l; table = t }) ≡ v
      → (length (table_by A limit (record { line = l; table = t }) d.height v) ≡ length (table_by A limit (record { line = l; table = t }) h' v))
      × ((i : ℕ) → (DependsOnHeight A (record { line = l; table = t }) v i → ⊥) → cell (table_by A limit (record { line = l; table = t }) d.height v) i ≡ cell (table_by A limit (record { line = l; table = t }) h' v) i)
  unfolding table_by
  tables_line (card c) t d h' zero e = (
    card_table_length c d.height ∙ sym (card_table_length c h'),
    λ i other. card_cells c d.height h' (accepted_passes d c t e) i (λ q. other (record { the_card = c; is_card = refl; verdict = refl; type = q.0; on_ground = q.1 })),
  )
  tables_line malformed t d h' zero e = absurd (malformed_refused d t e)
  tables_line l t d h' (suc v) e = (refl, λ i other. refl)

  -- ---- an entry on two decks
  module _ (d d' : Deck) (n : ℕ) (e : Entry A) (f : Fit limit d (suc n)) (f' : Fit limit d' (suc n)) where
    pub verdict_same : verdict_on A limit d e ≡ verdict_on A limit d' e
    verdict_same = verdict_own d n e f ∙ own_same e d.height d'.height ∙ sym (verdict_own d' n e f')

    -- of one height
    pub outcome_same : d.height ≡ d'.height → outcome_on A limit d e ≡ outcome_on A limit d' e
    unfolding outcome_on
    outcome_same p = λ i. record { verdict = verdict_same i; table = table_by A limit e (p i) (verdict_same i) }

    pub height_same : d.height ≡ d'.height → (deck_after A limit d e).height ≡ (deck_after A limit d' e).height
    height_same p = height_past d e ∙ ap₂ (carried_after_entry A e.line) verdict_same p ∙ sym (height_past d' e)

    -- of any heights
    pub entry_same : SameBut (DependsOnHeight A e (verdict_on A limit d' e)) (outcome_on A limit d e) (outcome_on A limit d' e)
    unfolding outcome_on
    entry_same =
        let t = tables_line e.line e.table d d'.height (verdict_on A limit d e) refl in
        record {
          verdict = verdict_same;
          length = t.0 ∙ ap (λ (v : ℕ). length (table_by A limit e d'.height v)) verdict_same;
          cells = λ i other.
              t.1 i (λ x. other (subst (λ (v : ℕ). DependsOnHeight A e v i) verdict_same x)) ∙ ap (λ (v : ℕ). cell (table_by A limit e d'.height v) i) verdict_same;
        }
