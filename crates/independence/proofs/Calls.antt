-- The run of an entry in code, on plain variables, and demand 3 of any calls that meet its contract. Over any antenna that keeps the laws. Assumes nothing.
use mathlib.Core.Path.{◌≡◌, refl, sym, ap, ap₂, ◌∙◌}
use mathlib.Core.Bool.{Bool, true, false, not, cond}
use mathlib.Core.List.{List, [], ◌∷◌}
use mathlib.Core.Logic.{◌≢◌}
use Prim.Native.Nat.{ℕ, zero, suc, ◌+◌, ◌<◌, ◌≤◌}
use native.Mathlib.Omega.{arith}
use native.Mathlib.Numerals.{add-one}
use lib.ListN.{length, replicate, length-replicate}
use lib.Dec.{eqb, leb, eqb-suc-zero}
use lib.Ieee.{Float}
use lib.Ieee.Scale.{finite}
use borrow.Author.Tests.{eqb-true, leb-false, not-false}
use Rattle.single.specs.Single.{num}
use Rattle.limits.specs.Refusals.{first_refusal}
use Rattle.table.specs.Table.{is_table, cleared, refused_table}
use Rattle.independence.specs.Antenna.{Antenna}
use Rattle.independence.specs.Laws.{Laws}
use Rattle.independence.specs.Filling.{card_refusal, rows_in, rows_of}
use Rattle.independence.specs.Deck.{Deck, refused_deck, fresh, card, malformed, Entry, Outcome, verdict_on, table_by, deck_by, outcome_on, deck_after, run, without}
use Rattle.independence.specs.Demand3.{Demand3}
use Rattle.independence.specs.EntryContracts.{CardDone, refusal_before_work, malformed_refusal, EntryDone, CallsDone}
use Rattle.independence.proofs.Rows.{cleared_length}
use Rattle.independence.proofs.Verdicts.{passed, none_found}
use Rattle.independence.proofs.Theorem.{demand3}

-- a refusal found, else r
abbrev found : ℕ → ℕ → ℕ
found n r = cond (not (eqb n 0)) n r

pub found_last : (n : ℕ) → found n 0 ≡ n
found_last zero = refl
found_last (suc n) = rw (eqb-suc-zero n) refl

-- two refusals, each one a test of its own
found_both : (n w : ℕ) → (found n 0 ≢ 0 → found n (found w 0) ≡ found n 0) × (found n 0 ≡ 0 → found n (found w 0) ≡ w)
found_both zero w = (λ p. absurd (p refl), λ p. found_last w)
found_both (suc n) w = rw (eqb-suc-zero n) (λ p. refl, λ p. let z : ⊥ = omega arith in absurd z)

-- the refusals of the deck and the table, 10, 9 and 7, else r
abbrev pub deck_then : (a b f : Bool) → ℕ → ℕ
deck_then a b f r = cond a 10 (cond b 9 (cond f 7 r))

-- as y is to x, so it is after them
pub deck_then_lem : (a b f : Bool) (x y w : ℕ) → (x ≢ 0 → y ≡ x) × (x ≡ 0 → y ≡ w)
    → (deck_then a b f x ≢ 0 → deck_then a b f y ≡ deck_then a b f x) × (deck_then a b f x ≡ 0 → deck_then a b f y ≡ w)
deck_then_lem true b f x y w h = (λ p. refl, λ p. let z : ⊥ = omega arith in absurd z)
deck_then_lem false true f x y w h = (λ p. refl, λ p. let z : ⊥ = omega arith in absurd z)
deck_then_lem false false true x y w h = (λ p. refl, λ p. let z : ⊥ = omega arith in absurd z)
deck_then_lem false false false x y w h = h

-- ---- tables
table_cleared : (t : List Float) → is_table t ≡ true → refused_table t ≡ cleared
unfolding refused_table
table_cleared t e = ap (λ (b : Bool). cond b cleared t) e

pub refused_length : (t : List Float) → length (refused_table t) ≡ length t
unfolding refused_table cleared is_table
refused_length t = go (eqb (length t) 2760) refl
  where
    go : (b : Bool) → eqb (length t) 2760 ≡ b → length (cond b (replicate 2760 (num 0 1)) t) ≡ length t
    go true e = length-replicate 2760 (num 0 1) ∙ sym (eqb-true (length t) 2760 e)
    go false e = refl

pub cleared_length_of : (t t₁ : List Float) → is_table t ≡ true → t₁ ≡ refused_table t → length t₁ ≡ 2760
cleared_length_of t t₁ e p = ap length (p ∙ table_cleared t e) ∙ cleared_length

is_table_lem : (t t' : List Float) → length t' ≡ length t → is_table t ≡ true → is_table t' ≡ true
unfolding is_table
is_table_lem t t' l e = ap (λ (n : ℕ). eqb n 2760) l ∙ e

module _ (A : Antenna) (L : Laws A) (limit : ℕ) where
  -- ---- what is known where no refusal comes before the work
  pub record NoneBeforeWork (d : Deck) (c : A.Card) (t : List Float) : Type 0 where
    pub room : d.accepted + d.refused < limit
    pub table : is_table t ≡ true
    pub input : A.input_refusal c ≡ 0
    pub low : 1 ≤ A.first c
    pub order : A.first c ≤ A.last c
    pub high : A.last c ≤ 30

  pub none_before_work : (d : Deck) (c : A.Card) (t : List Float) → refusal_before_work A limit d c t ≡ 0 → NoneBeforeWork d c t
  unfolding refusal_before_work first_refusal
  none_before_work d c t e =
      let a = passed (leb limit (d.accepted + d.refused)) 9 _ e in
      let b = passed (not (is_table t)) 6 _ (passed (not (finite d.height)) 8 _ a.1).1 in
      let p = (none_found (A.input_refusal c) 0 b.1).0 in
      let r = L.range c p in
      record { room = leb-false limit (d.accepted + d.refused) a.0; table = not-false (is_table t) b.0; input = p; low = r.0; order = r.1; high = r.2 }

  -- a refusal other than 10 leaves room for the count
  room_by : (b : Bool) (d : Deck) (v r : ℕ) → leb limit (d.accepted + d.refused) ≡ b → v ≡ cond b 10 r → v ≢ 10 → d.accepted + d.refused < limit
  room_by true d v r e p n = absurd (n p)
  room_by false d v r e p n = leb-false limit (d.accepted + d.refused) e

  pub room_before_work : (d : Deck) (c : A.Card) (t : List Float) (v : ℕ) → v ≡ refusal_before_work A limit d c t → v ≢ 10 → d.accepted + d.refused < limit
  unfolding refusal_before_work first_refusal
  room_before_work d c t v p n = room_by (leb limit (d.accepted + d.refused)) d v _ refl p n

  pub room_malformed : (d : Deck) (t : List Float) (v : ℕ) → v ≡ malformed_refusal A limit d t → v ≢ 10 → d.accepted + d.refused < limit
  unfolding malformed_refusal first_refusal
  room_malformed d t v p n = room_by (leb limit (d.accepted + d.refused)) d v _ refl p n

  -- ---- the verdict is the refusal before the work, or else the filling's
  verdict_of_both : (d : Deck) (c : A.Card) (t : List Float)
      → (refusal_before_work A limit d c t ≢ 0 → verdict_on A limit d (record { line = card c; table = t }) ≡ refusal_before_work A limit d c t)
      × (refusal_before_work A limit d c t ≡ 0 → verdict_on A limit d (record { line = card c; table = t }) ≡ card_refusal A c d.height)
  unfolding refusal_before_work verdict_on first_refusal
  verdict_of_both d c t =
      deck_then_lem (leb limit (d.accepted + d.refused)) (not (finite d.height)) (not (is_table t)) _ _ _ (found_both (A.input_refusal c) (card_refusal A c d.height))

  -- ---- an entry's run by its verdict
  by_verdict : (d : Deck) (e : Entry A) (t' : List Float) (v : ℕ) (d' : Deck) → verdict_on A limit d e ≡ v → t' ≡ table_by A limit e d.height v
      → d' ≡ deck_by A limit e d v → EntryDone A limit d e t' v d'
  unfolding outcome_on deck_after
  by_verdict d e t' v d' p q r =
      record { verdict = sym p; table = q ∙ ap (table_by A limit e d.height) (sym p); deck = r ∙ ap (deck_by A limit e d) (sym p) }

  by_refusal : (d : Deck) (e : Entry A) (t' : List Float) (v : ℕ) (d' : Deck) → verdict_on A limit d e ≡ v → v ≢ 0 → t' ≡ refused_table e.table
      → d' ≡ refused_deck d v → EntryDone A limit d e t' v d'
  unfolding table_by deck_by
  by_refusal d e t' zero d' p n q r = absurd (n refl)
  by_refusal d e t' (suc v) d' p n q r = by_verdict d e t' (suc v) d' p q r

  -- refused before the work
  pub entry_refused_before : (d : Deck) (c : A.Card) (t t' : List Float) (v : ℕ) (d' : Deck) → v ≡ refusal_before_work A limit d c t → v ≢ 0
      → t' ≡ refused_table t → d' ≡ refused_deck d v
      → EntryDone A limit d (record { line = card c; table = t }) t' v d'
  entry_refused_before d c t t' v d' s n q r =
      by_refusal d (record { line = card c; table = t }) t' v d' ((verdict_of_both d c t).0 (λ z. n (s ∙ z)) ∙ sym s) n q r

  pub entry_malformed : (d : Deck) (t t' : List Float) (v : ℕ) (d' : Deck) → v ≡ malformed_refusal A limit d t → t' ≡ refused_table t → d' ≡ refused_deck d v
      → EntryDone A limit d (record { line = malformed; table = t }) t' v d'
  unfolding malformed_refusal verdict_on first_refusal
  entry_malformed d t t' v d' s q r =
      by_refusal d (record { line = malformed; table = t }) t' v d' (sym s) (λ z. never (leb limit (d.accepted + d.refused)) (not (finite d.height)) (not (is_table t)) (sym s ∙ z)) q r
    where
      never : (a b f : Bool) → deck_then a b f 8 ≡ 0 → ⊥
      never true b f p = omega arith
      never false true f p = omega arith
      never false false true p = omega arith
      never false false false p = omega arith

  -- refused in the work: the table was cleared to t₁, filled in part to t₂ and cleared again
  pub entry_refused : (d : Deck) (c : A.Card) (t t₁ t₂ t' : List Float) (r : ℕ) (x : Float) (d' : Deck) → 0 ≡ refusal_before_work A limit d c t
      → t₁ ≡ refused_table t
      → CardDone A c d.height t₁ t₂ r x → r ≢ 0 → t' ≡ refused_table t₂ → d' ≡ refused_deck d r
      → EntryDone A limit d (record { line = card c; table = t }) t' r d'
  entry_refused d c t t₁ t₂ t' r x d' s p done n q w =
      let table = (none_before_work d c t (sym s)).table in
      let long : length t₂ ≡ length t = done.length ∙ ap length p ∙ refused_length t in
      by_refusal d (record { line = card c; table = t }) t' r d' ((verdict_of_both d c t).1 (sym s) ∙ sym done.verdict) n
      (q ∙ table_cleared t₂ (is_table_lem t t₂ long table) ∙ sym (table_cleared t table)) w

  -- accepted
  pub entry_accepted : (d : Deck) (c : A.Card) (t t₁ t' : List Float) (r : ℕ) (x : Float) → 0 ≡ refusal_before_work A limit d c t → t₁ ≡ refused_table t
      → CardDone A c d.height t₁ t' r x → r ≡ 0
      → EntryDone A limit d (record { line = card c; table = t }) t' 0 (record { height = x; accepted = d.accepted + 1; refused = d.refused })
  unfolding table_by deck_by
  entry_accepted d c t t₁ t' r x s p done z =
      by_verdict d (record { line = card c; table = t }) t' 0 (record { height = x; accepted = d.accepted + 1; refused = d.refused })
      ((verdict_of_both d c t).1 (sym s) ∙ sym done.verdict ∙ z)
      (done.table z ∙ ap (rows_in A c d.height (rows_of A c)) (p ∙ table_cleared t (none_before_work d c t (sym s)).table))
      (λ i. record { height = done.height z i; accepted = add-one d.accepted i; refused = d.refused })

  -- ---- calls in turn that meet the contract give the run's outcomes, so demand 3 holds of them
  pub calls_run : (d : Deck) (es : List (Entry A)) (os : List Outcome) → CallsDone A limit d es os → os ≡ run A limit d es
  unfolding run
  calls_run d [] [] x = refl
  calls_run d [] (o ∷ os) x = absurd x
  calls_run d (e ∷ es) [] x = absurd x
  calls_run d (e ∷ es) (o ∷ os) (d', done, rest) =
      ap₂ {C = List Outcome} (λ x xs. x ∷ xs) (λ i. record { verdict = done.verdict i; table = done.table i }) (calls_run d' es os rest ∙ ap (λ (x : Deck). run A limit x es) done.deck)

  pub demand3_of_calls : (entries : List (Entry A)) (outcomes : List Outcome) (k : ℕ) (outcomes_without : List Outcome) → length entries ≤ limit
      → CallsDone A limit fresh entries outcomes → CallsDone A limit fresh (without k entries) outcomes_without → Demand3 A entries outcomes k outcomes_without
  demand3_of_calls entries outcomes k outcomes_without l calls calls' =
      rw (calls_run fresh entries outcomes calls, calls_run fresh (without k entries) outcomes_without calls') (demand3 A L limit entries k l)
