-- What stands beside demand 3: the verdicts and counts of a run, when nothing at all differs, and the carried height in words. Assumes nothing.
use mathlib.Core.Path.{◌≡◌, refl, sym, ap, ap₂, ◌∙◌, subst}
use mathlib.Core.Bool.{Bool, true, false, not, cond}
use mathlib.Core.List.{List, [], ◌∷◌, map}
use mathlib.Core.Logic.{inl, inr, ◌≢◌}
use Prim.Native.Nat.{ℕ, zero, suc, ◌+◌, ◌-◌, ◌<◌, ◌≤◌}
use native.Mathlib.Omega.{arith}
use native.Mathlib.Nat.{not-suc-le-zero}
use lib.ListN.{length, take}
use lib.Seq.{ext_get_or}
use lib.Dec.{T, T_not, eqb, eqb-suc-zero}
use lib.Ieee.{Float}
use lib.Ieee.Bits.{is_true, is_false}
use borrow.Author.Tests.{ne_eqb}
use Rattle.std.proofs.lemmas.Bool.{cases_order}
use Rattle.single.specs.Single.{num}
use Rattle.limits.specs.Refusals.{first_refusal}
use Rattle.table.specs.Table.{gain_at, is_table}
use Rattle.independence.specs.Antenna.{Antenna, carries_height, height_left}
use Rattle.independence.specs.Laws.{Fills, Laws}
use Rattle.independence.specs.Filling.{first_of, call_at, height_at, cells_refusal, rows_refusal, height_after, card_refusal, rows_of}
use Rattle.independence.specs.Deck.{Deck, refused_deck, fresh, Line, card, malformed, Entry, own_tests, Outcome, verdict_on, deck_by, outcome_on, deck_after, run, deck_after_all, without, accepted_in, refused_in}
use Rattle.independence.specs.Demand3.{line_at, outcome_at, cell, Accepted, SameBut, NextAccepted, MayDiffer, carried_after_rows, carried_at_row, carried_after_entry, carried}
use Rattle.independence.proofs.Verdicts.{Fit, Passes, verdict_own, own_same, height_past, fit_after, card_leaves, last_fills}
use Rattle.independence.proofs.Runs.{run_length, run_same, run_without, fit_fewer}
use Rattle.independence.proofs.Rules.{filled_cell, height_shift, carried_shift, run_accepted}
use Rattle.independence.proofs.Theorem.{fit_fresh}

module _ (A : Antenna) (L : Laws A) (limit : ℕ) where
  -- ---- verdicts: by the entry's own tests, whatever came before it. Refusals 9 and 10 never arise
  own_from : (es : List (Entry A)) (d : Deck) → Fit limit d (length es)
      → map (λ (o : Outcome). o.verdict) (run A limit d es) ≡ map (λ (e : Entry A). first_refusal (own_tests A e (num 0 1))) es
  unfolding run outcome_on
  own_from [] d f = refl
  own_from (e ∷ es) d f =
      ap₂ {C = List ℕ} (λ v vs. v ∷ vs) (verdict_own A L limit d (length es) e f ∙ own_same A L limit e d.height (num 0 1)) (own_from es (deck_after A limit d e) (fit_after A L limit d (length es) e f))

  pub own_verdicts : (es : List (Entry A)) → length es ≤ limit
      → map (λ (o : Outcome). o.verdict) (run A limit fresh es) ≡ map (λ (e : Entry A). first_refusal (own_tests A e (num 0 1))) es
  own_verdicts es l = own_from es fresh (fit_fresh A L limit (length es) l)

  abbrev Own : ℕ → Type 0
  Own n = (n ≢ 9) × (n ≢ 10)

  first_own : (a b : ℕ) → Own a → Own b → Own (first_of a b)
  first_own zero b p q = q
  first_own (suc a) b p q = p

  zero_own : Own 0
  zero_own = (λ e. let z : ⊥ = omega arith in z, λ e. let z : ⊥ = omega arith in z)

  cells_own : (c : A.Card) (m : ℕ) (h : Float) (d : ℕ) → Fills A c m → d ≤ 91 → Own (cells_refusal A c m h d)
  unfolding cells_refusal
  cells_own c m h zero F l = zero_own
  cells_own c m h (suc d) F l = first_own (cells_refusal A c m h d) (call_at A c m h d).refusal (cells_own c m h d F (omega arith)) (L.call_number c m d (height_at A c m h d) F l)

  rows_own : (c : A.Card) (h : Float) (n : ℕ) → A.input_refusal c ≡ 0 → A.first c + n ≤ suc (A.last c) → Own (rows_refusal A c h n)
  unfolding rows_refusal
  rows_own c h zero p l = zero_own
  rows_own c h (suc n) p l =
      first_own (rows_refusal A c h n) (cells_refusal A c (A.first c + n) (height_after A c h n) 91) (rows_own c h n p (omega arith))
      (cells_own c (A.first c + n) (height_after A c h n) 91 (record { passes = p; low = omega arith; high = omega arith }) (omega arith))

  found_own : (n r : ℕ) → Own n → (n ≡ 0 → Own r) → Own (cond (not (eqb n 0)) n r)
  found_own zero r p q = q refl
  found_own (suc n) r p q = rw (eqb-suc-zero n) p

  length_own : (b : Bool) (r : ℕ) → Own r → Own (cond b 7 r)
  length_own true r p = (λ e. let z : ⊥ = omega arith in z, λ e. let z : ⊥ = omega arith in z)
  length_own false r p = p

  line_own : (l : Line A) (t : List Float) (h : Float) → Own (first_refusal (own_tests A (record { line = l; table = t }) h))
  unfolding first_refusal
  line_own malformed t h = length_own (not (is_table t)) 8 (λ e. let z : ⊥ = omega arith in z, λ e. let z : ⊥ = omega arith in z)
  line_own (card c) t h =
      length_own (not (is_table t)) _
      (found_own (A.input_refusal c) _ (L.input_number c)
      (λ p. found_own (card_refusal A c h) 0 (rows_own c h (rows_of A c) p (omega (arith, L.range c p))) (λ q. zero_own)))

  pub verdict_is_own : (d : Deck) (n : ℕ) (e : Entry A) → Fit limit d (suc n) → (verdict_on A limit d e ≢ 9) × (verdict_on A limit d e ≢ 10)
  verdict_is_own d n e f = subst Own (sym (verdict_own A L limit d n e f)) (line_own e.line e.table d.height)

  never_from : (es : List (Entry A)) (d : Deck) → Fit limit d (length es) → (j : ℕ) → Own (outcome_at (run A limit d es) j).verdict
  unfolding run outcome_on
  never_from [] d f j = (λ e. let z : ⊥ = omega arith in z, λ e. let z : ⊥ = omega arith in z)
  never_from (e ∷ es) d f zero = verdict_is_own d (length es) e f
  never_from (e ∷ es) d f (suc j) = never_from es (deck_after A limit d e) (fit_after A L limit d (length es) e f) j

  pub never_9_or_10 : (es : List (Entry A)) → length es ≤ limit → (j : ℕ)
      → ((outcome_at (run A limit fresh es) j).verdict ≢ 9) × ((outcome_at (run A limit fresh es) j).verdict ≢ 10)
  never_9_or_10 es l j = never_from es fresh (fit_fresh A L limit (length es) l) j

  -- ---- counts: each entry but one refused by 10 raises one of them by one
  raised : (e : Entry A) (d : Deck) (v : ℕ) → v ≢ 10
      → (v ≡ 0 → ((deck_by A limit e d v).accepted ≡ suc d.accepted) × ((deck_by A limit e d v).refused ≡ d.refused))
      × (v ≢ 0 → ((deck_by A limit e d v).accepted ≡ d.accepted) × ((deck_by A limit e d v).refused ≡ suc d.refused))
  unfolding deck_by refused_deck
  raised e d zero n = (λ p. (refl, refl), λ p. absurd (p refl))
  raised e d (suc v) n = (
    λ p. let z : ⊥ = omega arith in absurd z,
    λ p. (refl, ap (λ (b : Bool). cond b d.refused (suc d.refused)) (ne_eqb (suc v) 10 n)),
  )

  pub one_count : (d : Deck) (e : Entry A) → verdict_on A limit d e ≢ 10
      → (verdict_on A limit d e ≡ 0 → ((deck_after A limit d e).accepted ≡ suc d.accepted) × ((deck_after A limit d e).refused ≡ d.refused))
      × (verdict_on A limit d e ≢ 0 → ((deck_after A limit d e).accepted ≡ d.accepted) × ((deck_after A limit d e).refused ≡ suc d.refused))
  unfolding deck_after
  one_count d e n = raised e d (verdict_on A limit d e) n

  pub no_count : (d : Deck) (e : Entry A) → verdict_on A limit d e ≡ 10 → deck_after A limit d e ≡ d
  unfolding deck_after deck_by refused_deck
  no_count d e p = ap (deck_by A limit e d) p

  counts_from : (es : List (Entry A)) (d : Deck) → Fit limit d (length es)
      → ((deck_after_all A limit d es).accepted ≡ d.accepted + accepted_in (run A limit d es)) × ((deck_after_all A limit d es).refused ≡ d.refused + refused_in (run A limit d es))
  unfolding run deck_after_all accepted_in refused_in outcome_on
  counts_from [] d f = (omega arith, omega arith)
  counts_from (e ∷ es) d f = go (verdict_on A limit d e) (one_count d e (verdict_is_own d (length es) e f).1) (counts_from es (deck_after A limit d e) (fit_after A L limit d (length es) e f))
    where
      d' : Deck
      d' = deck_after A limit d e

      all : Deck
      all = deck_after_all A limit (deck_after A limit d e) es

      os : List Outcome
      os = run A limit (deck_after A limit d e) es

      go : (v : ℕ)
          → (v ≡ 0 → (d'.accepted ≡ suc d.accepted) × (d'.refused ≡ d.refused)) × (v ≢ 0 → (d'.accepted ≡ d.accepted) × (d'.refused ≡ suc d.refused))
          → (all.accepted ≡ d'.accepted + accepted_in os) × (all.refused ≡ d'.refused + refused_in os)
          → (all.accepted ≡ d.accepted + cond (eqb v 0) (suc (accepted_in os)) (accepted_in os)) × (all.refused ≡ d.refused + cond (eqb v 0) (refused_in os) (suc (refused_in os)))
      go zero one rest = let a = one.0 refl in (omega (arith, a, rest), omega (arith, a, rest))
      go (suc v) one rest = let a = one.1 (λ p. let z : ⊥ = omega arith in z) in rw (eqb-suc-zero v) (omega (arith, a, rest), omega (arith, a, rest))

  pub counts : (es : List (Entry A)) → length es ≤ limit
      → ((deck_after_all A limit fresh es).accepted ≡ accepted_in (run A limit fresh es)) × ((deck_after_all A limit fresh es).refused ≡ refused_in (run A limit fresh es))
  counts es l = let c = counts_from es fresh (fit_fresh A L limit (length es) l) in (omega (arith, c), omega (arith, c))

  both_counts : (os : List Outcome) → accepted_in os + refused_in os ≡ length os
  unfolding accepted_in refused_in
  both_counts [] = refl
  both_counts (o ∷ os) = go (eqb o.verdict 0) (both_counts os)
    where
      go : (b : Bool) → accepted_in os + refused_in os ≡ length os
          → cond b (suc (accepted_in os)) (accepted_in os) + cond b (refused_in os) (suc (refused_in os)) ≡ suc (length os)
      go true p = omega arith
      go false p = omega arith

  pub counts_sum : (es : List (Entry A)) → length es ≤ limit
      → (deck_after_all A limit fresh es).accepted + (deck_after_all A limit fresh es).refused ≡ length es
  counts_sum es l = let c = counts es l in ap₂ (λ (a b : ℕ). a + b) c.0 c.1 ∙ both_counts (run A limit fresh es) ∙ run_length A limit fresh es

  -- ---- when nothing at all differs: no cell may, the removed entry is refused, or the next accepted card is of another type
  table_equal : (t t' : List Float) → length t ≡ length t' → ((i : ℕ) → cell t i ≡ cell t' i) → t ≡ t'
  table_equal t t' l e = ext_get_or (num 0 1) t t' l (λ i h. e i)

  outcome_equal : (P : ℕ → Type 0) (o o' : Outcome) → ((i : ℕ) → P i → ⊥) → SameBut P o o' → o ≡ o'
  outcome_equal P o o' none s =
      let t = table_equal o.table o'.table s.length (λ i. s.cells i (none i)) in
      λ x. record { verdict = s.verdict x; table = t x }

  without_length : {X Y : Type 0} (k : ℕ) (xs : List X) (ys : List Y) → length xs ≡ length ys → length (without k xs) ≡ length (without k ys)
  unfolding without
  without_length k [] [] e = refl
  without_length k [] (y ∷ ys) e = let z : ⊥ = omega arith in absurd z
  without_length k (x ∷ xs) [] e = let z : ⊥ = omega arith in absurd z
  without_length zero (x ∷ xs) (y ∷ ys) e = omega arith
  without_length (suc k) (x ∷ xs) (y ∷ ys) e = ap suc (without_length k xs ys (omega arith))

  pub nothing_differs : (es : List (Entry A)) (k : ℕ) → length es ≤ limit
      → ((j i : ℕ) → MayDiffer A (without k es) (run A limit fresh (without k es)) k j i → ⊥)
      → without k (run A limit fresh es) ≡ run A limit fresh (without k es)
  nothing_differs es k l none =
      ext_get_or (record { verdict = 8; table = [] }) (without k (run A limit fresh es)) (run A limit fresh (without k es))
      (without_length k (run A limit fresh es) es (run_length A limit fresh es) ∙ sym (run_length A limit fresh (without k es)))
      (λ j h. outcome_equal (MayDiffer A (without k es) (run A limit fresh (without k es)) k j) _ _ (none j) (run_without A L limit k es fresh (fit_fresh A L limit (length es) l) j))

  past_refused : (l : Line A) (v : ℕ) (h : Float) → v ≢ 0 → carried_after_entry A l v h ≡ h
  past_refused (card c) zero h n = absurd (n refl)
  past_refused (card c) (suc v) h n = refl
  past_refused malformed zero h n = refl
  past_refused malformed (suc v) h n = refl

  removed_refused : (k : ℕ) (es : List (Entry A)) (d : Deck) → Fit limit d (length es) → (outcome_at (run A limit d es) k).verdict ≢ 0
      → without k (run A limit d es) ≡ run A limit d (without k es)
  unfolding run without outcome_on
  removed_refused zero [] d f r = refl
  removed_refused (suc k) [] d f r = refl
  removed_refused zero (e ∷ es) d f r =
      run_same A L limit es (deck_after A limit d e) d (fit_after A L limit d (length es) e f) (fit_fewer A L limit d (length es) (suc (length es)) (omega arith) f)
      (height_past A L limit d e ∙ past_refused e.line (verdict_on A limit d e) d.height r)
  removed_refused (suc k) (e ∷ es) d f r =
      ap {B = List Outcome} (λ os. outcome_on A limit d e ∷ os) (removed_refused k es (deck_after A limit d e) (fit_after A L limit d (length es) e f) r)

  pub refused_removed : (es : List (Entry A)) (k : ℕ) → length es ≤ limit → (outcome_at (run A limit fresh es) k).verdict ≢ 0
      → without k (run A limit fresh es) ≡ run A limit fresh (without k es)
  refused_removed es k l r = removed_refused k es fresh (fit_fresh A L limit (length es) l) r

  card_or : A.Card → Line A → A.Card
  card_or c (card c') = c'
  card_or c malformed = c

  -- the next accepted card is one alone
  module _ (es : List (Entry A)) (os : List Outcome) (k j j' : ℕ) (c c' : A.Card) (a : NextAccepted A es os k j c) (a' : NextAccepted A es os k j' c') where
    next_place : j ≡ j'
    next_place =
        elim (cases_order j j') [
          | inl e ↦ e
          | inr (inl l) ↦ absurd (a'.between j a.after l a.accepted.verdict)
          | inr (inr l) ↦ absurd (a.between j' a'.after l a'.accepted.verdict)
        ]

    next_card : c ≡ c'
    unfolding card_or
    next_card = ap (card_or c) (sym a.accepted.is_card ∙ ap (line_at es) next_place ∙ a'.accepted.is_card)

  pub one_cell : (es : List (Entry A)) (os : List Outcome) (k j j' i i' : ℕ) → MayDiffer A es os k j i → MayDiffer A es os k j' i' → (j ≡ j') × (i ≡ i')
  one_cell es os k j j' i i' x x' = (
    next_place es os k j j' x.the_card x'.the_card x.next x'.next,
    x.on_ground ∙ ap (λ (c : A.Card). gain_at (A.first c) 0) (next_card es os k j j' x.the_card x'.the_card x.next x'.next) ∙ sym x'.on_ground,
  )

  pub other_type_next : (es : List (Entry A)) (k j : ℕ) (c : A.Card) → length es ≤ limit
      → NextAccepted A (without k es) (run A limit fresh (without k es)) k j c
      → T (not (carries_height (A.type_of c))) → without k (run A limit fresh es) ≡ run A limit fresh (without k es)
  other_type_next es k j c l a other =
      nothing_differs es k l
      (λ j' i x.
      T_not (carries_height (A.type_of c)) other
      (subst (λ (c' : A.Card). T (carries_height (A.type_of c'))) (next_card (without k es) (run A limit fresh (without k es)) k j' j x.the_card c x.next a) x.type))

  -- ---- the carried height
  -- it is the deck's height as each entry finds it
  pub deck_height : (es : List (Entry A)) (d : Deck) (j : ℕ) → j ≤ length es
      → (deck_after_all A limit d (take j es)).height ≡ carried A d.height es (run A limit d es) j
  unfolding run deck_after_all carried
  deck_height es d zero l = refl
  deck_height [] d (suc j) l = absurd (not-suc-le-zero l)
  deck_height (e ∷ es) d (suc j) l =
      deck_height es (deck_after A limit d e) j (omega arith)
      ∙ ap (λ (h : Float). carried A h es (run A limit (deck_after A limit d e) es) j) (height_shift A L limit d e)
      ∙ carried_shift A L limit d.height e es (outcome_on A limit d e) (run A limit (deck_after A limit d e) es) j

  refused_keep : (h : Float) (es : List (Entry A)) (os : List Outcome) (i n : ℕ) → ((m : ℕ) → i ≤ m → m < i + n → (outcome_at os m).verdict ≢ 0)
      → carried A h es os (i + n) ≡ carried A h es os i
  unfolding carried
  refused_keep h es os i zero none = ap (carried A h es os) (let z : i + 0 ≡ i = omega arith in z)
  refused_keep h es os i (suc n) none =
      let z : i + suc n ≡ suc (i + n) = omega arith in
      ap (carried A h es os) z
      ∙ past_refused (line_at es (i + n)) (outcome_at os (i + n)).verdict (carried A h es os (i + n)) (none (i + n) (omega arith) (omega arith))
      ∙ refused_keep h es os i n (λ m l k. none m l (omega arith))

  -- within a card: the first row finds what the card finds, a later one what the row before it leaves
  pub first_row : (c : A.Card) (h : Float) → carried_at_row A c h (A.first c) ≡ h
  unfolding carried_after_rows
  first_row c h = ap (carried_after_rows A c h) (let z : A.first c - A.first c ≡ 0 = omega arith in z)

  pub later_row : (c : A.Card) (h : Float) (m : ℕ) → A.first c ≤ m → carried_at_row A c h (suc m) ≡ height_left A c m
  unfolding carried_after_rows
  later_row c h m l =
      let n : suc m - A.first c ≡ suc (m - A.first c) = omega arith in
      let at : A.first c + (m - A.first c) ≡ m = omega arith in
      ap (carried_after_rows A c h) n ∙ ap (height_left A c) at

  -- zero if none was accepted before
  pub zero_if_none : (es : List (Entry A)) (os : List Outcome) (j : ℕ) → ((n : ℕ) → n < j → (outcome_at os n).verdict ≢ 0)
      → carried A (num 0 1) es os j ≡ num 0 1
  unfolding carried
  zero_if_none es os j none =
      let z : 0 + j ≡ j = omega arith in
      ap (carried A (num 0 1) es os) (sym z) ∙ refused_keep (num 0 1) es os 0 j (λ m l k. none m (omega arith))

  -- the last accepted card before entry j is entry i's
  pub record LastAccepted (es : List (Entry A)) (os : List Outcome) (i j : ℕ) (c : A.Card) : Type 0 where
    pub before : i < j
    pub accepted : Accepted A es os i c
    pub between : (n : ℕ) → i < n → n < j → (outcome_at os n).verdict ≢ 0

  pub after_last : (es : List (Entry A)) (i j : ℕ) (c : A.Card) → LastAccepted es (run A limit fresh es) i j c
      → carried A (num 0 1) es (run A limit fresh es) j ≡ height_left A c (A.last c)
  unfolding carried
  after_last es i j c a =
      let os = run A limit fresh es in
      let n = j - suc i in
      let at : suc i + n ≡ j = omega (arith, a.before) in
      ap (carried A (num 0 1) es os) (sym at)
      ∙ refused_keep (num 0 1) es os (suc i) n (λ m l k. a.between m l (omega arith))
      ∙ ap₂ (λ (l : Line A) (v : ℕ). carried_after_entry A l v (carried A (num 0 1) es os i)) a.accepted.is_card a.accepted.verdict
      ∙ card_leaves A L limit c (carried A (num 0 1) es os i) (run_accepted A L limit es fresh i c a.accepted).passes.input

  -- 1 after another type, their height in wavelengths at their last MHz after types 2 and 5
  pub one_after_other : (es : List (Entry A)) (i j : ℕ) (c : A.Card) → LastAccepted es (run A limit fresh es) i j c → T (not (carries_height (A.type_of c)))
      → carried A (num 0 1) es (run A limit fresh es) j ≡ num 1 1
  unfolding height_left
  one_after_other es i j c a other = after_last es i j c a ∙ ap (λ (b : Bool). cond b (A.wavelengths c (A.last c)) (num 1 1)) (is_false (carries_height (A.type_of c)) other)

  pub own_after_2_or_5 : (es : List (Entry A)) (i j : ℕ) (c : A.Card) → LastAccepted es (run A limit fresh es) i j c → T (carries_height (A.type_of c))
      → carried A (num 0 1) es (run A limit fresh es) j ≡ A.wavelengths c (A.last c)
  unfolding height_left
  own_after_2_or_5 es i j c a own = after_last es i j c a ∙ ap (λ (b : Bool). cond b (A.wavelengths c (A.last c)) (num 1 1)) (is_true (carries_height (A.type_of c)) own)

  -- it is the height that an accepted card's last cell leaves
  pub left_by_last_cell : (c : A.Card) (h : Float) → Passes A c h
      → (call_at A c (A.last c) (carried_at_row A c h (A.last c)) 90).height ≡ height_left A c (A.last c)
  left_by_last_cell c h p =
      let r = L.range c p.input in
      L.leaves c (A.last c) 89 (height_at A c (A.last c) (carried_at_row A c h (A.last c)) 90) (last_fills A L limit c p.input) (omega arith) (filled_cell A L limit c h (A.last c) 90 p r.1 (omega arith) (omega arith)).1
