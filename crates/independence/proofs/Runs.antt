-- A list of entries in turn, over any antenna that keeps the laws: from two decks, and without an entry. Assumes nothing.
use mathlib.Core.Path.{◌≡◌, refl, sym, ap, ap₂, ◌∙◌, subst}
use mathlib.Core.List.{List, [], ◌∷◌}
use mathlib.Core.Logic.{◌≢◌}
use Prim.Native.Nat.{ℕ, zero, suc, ◌<◌, ◌≤◌, zero-le, suc-le-suc}
use native.Mathlib.Omega.{arith}
use native.Mathlib.Nat.{not-suc-le-zero, le_of_suc-le-suc}
use lib.ListN.{length}
use lib.Ieee.{Float}
use Rattle.independence.specs.Antenna.{Antenna}
use Rattle.independence.specs.Laws.{Laws}
use Rattle.independence.specs.Deck.{Deck, Line, card, malformed, Entry, Outcome, verdict_on, outcome_on, deck_after, run, without}
use Rattle.independence.specs.Demand3.{outcome_at, cell, SameBut, MayDiffer, carried_after_entry}
use Rattle.independence.proofs.Verdicts.{Fit, accepted_passes, malformed_refused, card_leaves, height_past, fit_after, verdict_same, outcome_same, height_same, DependsOnHeight, entry_same}

-- ---- sameness but for some cells
pub same_equal : (P : ℕ → Type 0) (o o' : Outcome) → o ≡ o' → SameBut P o o'
same_equal P o o' e =
    record { verdict = ap (λ (x : Outcome). x.verdict) e; length = ap (λ (x : Outcome). length x.table) e; cells = λ i n. ap (λ (x : Outcome). cell x.table i) e }

pub same_weaker : (P Q : ℕ → Type 0) (o o' : Outcome) → ((i : ℕ) → P i → Q i) → SameBut P o o' → SameBut Q o o'
same_weaker P Q o o' f s = record { verdict = s.verdict; length = s.length; cells = λ i n. s.cells i (λ p. n (f i p)) }

module _ (A : Antenna) (limit : ℕ) where
  -- ---- each entry has one outcome
  pub run_length : (d : Deck) (es : List (Entry A)) → length (run A limit d es) ≡ length es
  unfolding run
  run_length d [] = refl
  run_length d (e ∷ es) = ap suc (run_length (deck_after A limit d e) es)

module _ (A : Antenna) (L : Laws A) (limit : ℕ) where
  -- ---- the cell that may differ, one place further on
  shift : (e : Entry A) (es : List (Entry A)) (o : Outcome) (os : List Outcome) (k k' j i : ℕ) → MayDiffer A es os k j i → k' ≤ suc j
      → (k' ≤ 0 → o.verdict ≢ 0) → ((n : ℕ) → k' ≤ suc n → k ≤ n)
      → MayDiffer A (e ∷ es) (o ∷ os) k' (suc j) i
  shift e es o os k k' j i x after first past =
      record {
        the_card = x.the_card;
        next = record { after = after; accepted = record { is_card = x.next.accepted.is_card; verdict = x.next.accepted.verdict }; between = earlier };
        type = x.type;
        on_ground = x.on_ground;
      }
    where
      earlier : (n : ℕ) → k' ≤ n → n < suc j → (outcome_at (o ∷ os) n).verdict ≢ 0
      earlier zero l m = first l
      earlier (suc n) l m = x.next.between n (past n l) (le_of_suc-le-suc m)

  -- past an entry before the removed one, and past a refused one after it
  shift_both : (e : Entry A) (es : List (Entry A)) (o : Outcome) (os : List Outcome) (k j i : ℕ) → MayDiffer A es os k j i
      → MayDiffer A (e ∷ es) (o ∷ os) (suc k) (suc j) i
  shift_both e es o os k j i x = shift e es o os k (suc k) j i x (suc-le-suc x.next.after) (λ l. absurd (not-suc-le-zero l)) (λ n l. le_of_suc-le-suc l)

  shift_refused : (e : Entry A) (es : List (Entry A)) (o : Outcome) (os : List Outcome) (j i : ℕ) → o.verdict ≢ 0 → MayDiffer A es os 0 j i
      → MayDiffer A (e ∷ es) (o ∷ os) 0 (suc j) i
  shift_refused e es o os j i r x = shift e es o os 0 0 j i x zero-le (λ l. r) (λ n l. zero-le)

  first_exempt : (e : Entry A) (es : List (Entry A)) (o : Outcome) (os : List Outcome) (i : ℕ) → DependsOnHeight A e o.verdict i
      → MayDiffer A (e ∷ es) (o ∷ os) 0 0 i
  first_exempt e es o os i x =
      record {
        the_card = x.the_card;
        next = record { after = zero-le; accepted = record { is_card = x.is_card; verdict = x.verdict }; between = λ n l m. absurd (not-suc-le-zero m) };
        type = x.type;
        on_ground = x.on_ground;
      }

  -- ---- a list from two decks of one height
  pub run_same : (es : List (Entry A)) (d d' : Deck) → Fit limit d (length es) → Fit limit d' (length es) → d.height ≡ d'.height
      → run A limit d es ≡ run A limit d' es
  unfolding run
  run_same [] d d' f f' p = refl
  run_same (e ∷ es) d d' f f' p =
      let n = length es in
      ap₂ {C = List Outcome} (λ o os. o ∷ os) (outcome_same A L limit d d' n e f f' p)
      (run_same es (deck_after A limit d e) (deck_after A limit d' e) (fit_after A L limit d n e f) (fit_after A L limit d' n e f') (height_same A L limit d d' n e f f' p))

  -- ---- and of any heights: after an accepted entry the heights are the same
  past_accepted : (l : Line A) (t : List Float) (d : Deck) (h' : Float) → verdict_on A limit d (record { line = l; table = t }) ≡ 0
      → carried_after_entry A l 0 d.height ≡ carried_after_entry A l 0 h'
  past_accepted (card c) t d h' e = let p = (accepted_passes A L limit d c t e).input in card_leaves A L limit c d.height p ∙ sym (card_leaves A L limit c h' p)
  past_accepted malformed t d h' e = absurd (malformed_refused A L limit d t e)

  height_accepted : (d d' : Deck) (e : Entry A) → verdict_on A limit d e ≡ 0 → verdict_on A limit d' e ≡ 0
      → (deck_after A limit d e).height ≡ (deck_after A limit d' e).height
  height_accepted d d' e p p' =
      height_past A L limit d e
      ∙ ap (λ (v : ℕ). carried_after_entry A e.line v d.height) p
      ∙ past_accepted e.line e.table d d'.height p
      ∙ sym (ap (λ (v : ℕ). carried_after_entry A e.line v d'.height) p')
      ∙ sym (height_past A L limit d' e)

  outcome_verdict : (d : Deck) (e : Entry A) → (outcome_on A limit d e).verdict ≡ verdict_on A limit d e
  unfolding outcome_on
  outcome_verdict d e = refl

  pub run_two : (es : List (Entry A)) (d d' : Deck) → Fit limit d (length es) → Fit limit d' (length es) → (j : ℕ)
      → SameBut (MayDiffer A es (run A limit d' es) 0 j) (outcome_at (run A limit d es) j) (outcome_at (run A limit d' es) j)
  unfolding run
  run_two [] d d' f f' j = same_equal (MayDiffer A [] [] 0 j) (outcome_at [] j) (outcome_at [] j) refl
  run_two (e ∷ es) d d' f f' zero =
      same_weaker (DependsOnHeight A e (verdict_on A limit d' e)) (MayDiffer A (e ∷ es) (run A limit d' (e ∷ es)) 0 0) (outcome_on A limit d e) (outcome_on A limit d' e)
      (λ i x. first_exempt e es (outcome_on A limit d' e) (run A limit (deck_after A limit d' e) es) i (subst (λ (v : ℕ). DependsOnHeight A e v i) (sym (outcome_verdict d' e)) x))
      (entry_same A L limit d d' (length es) e f f')
  run_two (e ∷ es) d d' f f' (suc j) = go (verdict_on A limit d e) refl (run_two es b b' g g' j)
    where
      o : Outcome
      o = outcome_on A limit d' e

      b : Deck
      b = deck_after A limit d e

      b' : Deck
      b' = deck_after A limit d' e

      g : Fit limit b (length es)
      g = fit_after A L limit d (length es) e f

      g' : Fit limit b' (length es)
      g' = fit_after A L limit d' (length es) e f'

      same : verdict_on A limit d e ≡ verdict_on A limit d' e
      same = verdict_same A L limit d d' (length es) e f f'

      Same : (ℕ → Type 0) → Type 0
      Same P = SameBut P (outcome_at (run A limit b es) j) (outcome_at (run A limit b' es) j)

      go : (v : ℕ) → verdict_on A limit d e ≡ v → Same (MayDiffer A es (run A limit b' es) 0 j) → Same (MayDiffer A (e ∷ es) (o ∷ run A limit b' es) 0 (suc j))
      go zero p rest = same_equal _ _ _ (ap (λ (os : List Outcome). outcome_at os j) (run_same es b b' g g' (height_accepted d d' e p (sym same ∙ p))))
      go (suc v) p rest =
          same_weaker _ _ _ _
          (λ i x. shift_refused e es o (run A limit b' es) j i (λ q. let z : suc v ≡ 0 = sym p ∙ same ∙ sym (outcome_verdict d' e) ∙ q in omega arith) x) rest

  -- ---- without an entry
  pub fit_fewer : (d : Deck) (m n : ℕ) → m ≤ n → Fit limit d n → Fit limit d m
  fit_fewer d m n l f = record { height = f.height; room = omega (arith, f.room) }

  pub run_without : (k : ℕ) (es : List (Entry A)) (d : Deck) → Fit limit d (length es) → (j : ℕ)
      → SameBut (MayDiffer A (without k es) (run A limit d (without k es)) k j) (outcome_at (without k (run A limit d es)) j) (outcome_at (run A limit d (without k es)) j)
  unfolding run without
  run_without zero [] d f j = same_equal (MayDiffer A [] [] zero j) (outcome_at [] j) (outcome_at [] j) refl
  run_without (suc k) [] d f j = same_equal (MayDiffer A [] [] (suc k) j) (outcome_at [] j) (outcome_at [] j) refl
  run_without zero (e ∷ es) d f j = run_two es (deck_after A limit d e) d (fit_after A L limit d (length es) e f) (fit_fewer d (length es) (suc (length es)) (omega arith) f) j
  run_without (suc k) (e ∷ es) d f zero = same_equal (MayDiffer A (e ∷ without k es) (run A limit d (e ∷ without k es)) (suc k) zero) (outcome_on A limit d e) (outcome_on A limit d e) refl
  run_without (suc k) (e ∷ es) d f (suc j) =
      let d' = deck_after A limit d e in
      same_weaker (MayDiffer A (without k es) (run A limit d' (without k es)) k j) (MayDiffer A (e ∷ without k es) (run A limit d (e ∷ without k es)) (suc k) (suc j))
      (outcome_at (without k (run A limit d' es)) j) (outcome_at (run A limit d' (without k es)) j)
      (λ i x. shift_both e (without k es) (outcome_on A limit d e) (run A limit d' (without k es)) k j i x)
      (run_without k es d' (fit_after A L limit d (length es) e f) j)

  pub without_shorter : {X : Type 0} (k : ℕ) (xs : List X) → length (without k xs) ≤ length xs
  unfolding without
  without_shorter zero [] = omega arith
  without_shorter (suc k) [] = omega arith
  without_shorter zero (x ∷ xs) = omega arith
  without_shorter (suc k) (x ∷ xs) = suc-le-suc (without_shorter k xs)
