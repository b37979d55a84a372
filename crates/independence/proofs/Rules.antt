-- The rule of the ground gains and the rule of -30 in a run, over any antenna that keeps the laws. Assumes nothing.
use mathlib.Core.Path.{◌≡◌, refl, sym, ap, ◌∙◌, subst}
use mathlib.Core.Bool.{not, ◌||◌}
use mathlib.Core.List.{List, [], ◌∷◌}
use mathlib.Core.Logic.{◌⊎◌, inl, inr, ◌≢◌}
use Prim.Native.Nat.{ℕ, zero, suc, ◌+◌, ◌-◌, ◌<◌, ◌≤◌, zero-le, suc-le-suc}
use native.Mathlib.Omega.{arith}
use lib.Dec.{T, eqb}
use lib.Ieee.{Float, nan, lt, neg, round}
use lib.Ieee.Scale.{finite}
use Rattle.single.specs.Single.{num}
use Rattle.table.specs.Table.{gain_at, efficiency_at, cleared}
use Rattle.independence.specs.Antenna.{Antenna, floor_plus, AboveFloor, has_second_call}
use Rattle.independence.specs.Laws.{Fills, Laws}
use Rattle.independence.specs.Filling.{call_at, height_at, rows_of, card_table}
use Rattle.independence.specs.Deck.{Deck, card, Entry, Outcome, verdict_on, table_by, outcome_on, deck_after, run}
use Rattle.independence.specs.Demand3.{line_at, outcome_at, cell, Accepted, carried_after_rows, carried_at_row, carried_after_entry, carried, CardRules}
use Rattle.independence.proofs.Rows.{cleared_length, cleared_cell, call_accepted, row_accepted, height_carried, rows_cell, rows_other}
use Rattle.independence.proofs.Efficiencies.{rows_efficiency}
use Rattle.independence.proofs.Verdicts.{Passes, accepted_passes, accepted_finite, height_past}

lower_or_not : (a b : ℕ) → (a < b) ⊎ (b ≤ a)
lower_or_not a zero = inr zero-le
lower_or_not zero (suc b) = inl (suc-le-suc zero-le)
lower_or_not (suc a) (suc b) = elim (lower_or_not a b) [ inl l ↦ inl (suc-le-suc l) | inr g ↦ inr (suc-le-suc g) ]

zero_above : AboveFloor (num 0 1)
unfolding lt neg round
zero_above = tt

-- a card that a run accepts at the height h: its table is the filling's
pub record AcceptedCard (A : Antenna) (c : A.Card) (h : Float) (t : List Float) : Type 0 where
  pub passes : Passes A c h
  pub finite_height : T (finite h)
  pub table : t ≡ card_table A c h

module _ (A : Antenna) (L : Laws A) (limit : ℕ) where
  -- ---- an accepted card's filled cell is its call's gain, at the height of the recursion
  filled_row : (c : A.Card) (h : Float) (i d : ℕ) → Passes A c h → A.first c + i ≤ A.last c → d < 91
      → (cell (card_table A c h) (gain_at (A.first c + i) d) ≡ (call_at A c (A.first c + i) (carried_after_rows A c h i) d).gain)
      × ((call_at A c (A.first c + i) (carried_after_rows A c h i) d).refusal ≡ 0)
  filled_row c h i d p l k =
      let r = L.range c p.input in
      let m = A.first c + i in
      let n = rows_of A c in
      let below : i < n = omega (arith, r) in
      let a = row_accepted A L c h n i p.calls below in
      let same = height_carried A L c h i p.input (omega arith) a.0 in (
        rows_cell A L c d k h n i cleared r.0 (omega (arith, r)) cleared_length below ∙ ap (λ (x : Float). (call_at A c m x d).gain) same,
        subst (λ (x : Float). (call_at A c m x d).refusal ≡ 0) same (call_accepted A L c m _ 91 d a.1 k),
      )

  pub filled_cell : (c : A.Card) (h : Float) (m d : ℕ) → Passes A c h → A.first c ≤ m → m ≤ A.last c → d < 91
      → (cell (card_table A c h) (gain_at m d) ≡ (call_at A c m (carried_at_row A c h m) d).gain) × ((call_at A c m (carried_at_row A c h m) d).refusal ≡ 0)
  filled_cell c h m d p lo hi k =
      let i = m - A.first c in
      let at : A.first c + i ≡ m = omega arith in
      subst (λ (x : ℕ). (cell (card_table A c h) (gain_at x d) ≡ (call_at A c x (carried_after_rows A c h i) d).gain) × ((call_at A c x (carried_after_rows A c h i) d).refusal ≡ 0)) at
      (filled_row c h i d p (omega arith) k)

  pub filled_efficiency : (c : A.Card) (h : Float) (m : ℕ) → Passes A c h → A.first c ≤ m → m ≤ A.last c
      → cell (card_table A c h) (efficiency_at m) ≡ (call_at A c m (carried_at_row A c h m) 90).efficiency
  filled_efficiency c h m p lo hi =
      let r = L.range c p.input in
      let i = m - A.first c in
      let n = rows_of A c in
      let at : A.first c + i ≡ m = omega arith in
      let below : i < n = omega (arith, r) in
      let same = height_carried A L c h i p.input (omega arith) (row_accepted A L c h n i p.calls below).0 in
      subst (λ (x : ℕ). cell (card_table A c h) (efficiency_at x) ≡ (call_at A c x (carried_after_rows A c h i) 90).efficiency) at
      (rows_efficiency A L c h n i cleared r.0 (omega (arith, r)) cleared_length below ∙ ap (λ (x : Float). (call_at A c (A.first c + i) x 90).efficiency) same)

  ground_rule : (c : A.Card) (h : Float) → Passes A c h → T (not (has_second_call (A.type_of c))) → (m : ℕ) → A.first c ≤ m → m ≤ A.last c
      → cell (card_table A c h) (gain_at m 0) ≡ floor_plus (A.efficiency_of (A.type_of c) (carried_at_row A c h m))
  unfolding height_at
  ground_rule c h p type m lo hi =
      let g = filled_cell c h m 0 p lo hi (omega arith) in
      g.0 ∙ L.ground_gain c m (carried_at_row A c h m) (record { passes = p.input; low = lo; high = hi }) type g.1

  -- ---- the rule of -30
  abbrev Floored : A.Card → Float → ℕ → ℕ → Type 0
  Floored c h m d =
      AboveFloor (cell (card_table A c h) (gain_at m d))
      ⊎ ((A.first c ≤ m) × (m ≤ A.last c) × (cell (card_table A c h) (gain_at m d) ≡ floor_plus (call_at A c m (carried_at_row A c h m) d).efficiency))

  unfilled : (c : A.Card) (h : Float) (m d : ℕ) → Passes A c h → 1 ≤ m → m ≤ 30 → d < 91 → (m < A.first c) ⊎ (A.first c + rows_of A c ≤ m) → Floored c h m d
  unfilled c h m d p l top k o =
      inl
      (subst AboveFloor
      (sym (rows_other A L c h (rows_of A c) m d cleared (L.range c p.input).0 l top k o ∙ cleared_cell m d top k)) zero_above)

  filled : (c : A.Card) (h : Float) (m d : ℕ) → Passes A c h → T (not (eqb (A.type_of c) 2 || has_second_call (A.type_of c))) → A.first c ≤ m → m ≤ A.last c
      → d < 91
      → cell (card_table A c h) (gain_at m d) ≢ nan → Floored c h m d
  filled c h m d p type lo hi k number =
      let g = filled_cell c h m d p lo hi k in
      let F : Fills A c m = record { passes = p.input; low = lo; high = hi } in
      elim (L.floored c m d (height_at A c m (carried_at_row A c h m) d) F k type g.1) [
        | inl q ↦ absurd (number (g.0 ∙ q))
        | inr (inl q) ↦ inl (subst AboveFloor (sym g.0) q)
        | inr (inr q) ↦ inr (lo, hi, g.0 ∙ q)
      ]

  floor_rule : (c : A.Card) (h : Float) → Passes A c h → T (not (eqb (A.type_of c) 2 || has_second_call (A.type_of c))) → (m d : ℕ) → 1 ≤ m → m ≤ 30 → d < 91
      → cell (card_table A c h) (gain_at m d) ≢ nan → Floored c h m d
  floor_rule c h p type m d l top k number = go (lower_or_not m (A.first c)) (lower_or_not (A.last c) m)
    where
      go : (m < A.first c) ⊎ (A.first c ≤ m) → (A.last c < m) ⊎ (m ≤ A.last c) → Floored c h m d
      go (inl below) q = unfilled c h m d p l top k (inl below)
      go (inr lo) (inl above) = unfilled c h m d p l top k (inr (omega (arith, L.range c p.input)))
      go (inr lo) (inr hi) = filled c h m d p type lo hi k number

  type8 : (kop : ℕ) (x : Float) → kop ≡ 8 → T (not (has_second_call kop)) × (A.efficiency_of kop x ≡ num 0 1)
  type8 kop x e = subst (λ (n : ℕ). T (not (has_second_call n)) × (A.efficiency_of n x ≡ num 0 1)) (sym e) (tt, L.efficiency_of8 x)

  table_rules : (c : A.Card) (h : Float) → Passes A c h → CardRules A c h (card_table A c h)
  table_rules c h p =
      record {
        on_ground = ground_rule c h p;
        ground_of8 = λ e m lo hi. let t = type8 (A.type_of c) (carried_at_row A c h m) e in ground_rule c h p t.0 m lo hi ∙ ap floor_plus t.1;
        every_gain = floor_rule c h p;
      }

  -- ---- in a run
  card_accepted : (d : Deck) (e : Entry A) (c : A.Card) → e.line ≡ card c → (outcome_on A limit d e).verdict ≡ 0
      → AcceptedCard A c d.height (outcome_on A limit d e).table
  unfolding outcome_on table_by
  card_accepted d e c is v =
      let v' : verdict_on A limit d (record { line = card c; table = e.table }) ≡ 0 = subst (λ (l : _). verdict_on A limit d (record { line = l; table = e.table }) ≡ 0) is v in
      record {
        passes = accepted_passes A L limit d c e.table v';
        finite_height = accepted_finite A L limit d e v;
        table = ap (λ (n : ℕ). table_by A limit e d.height n) v ∙ ap (λ (l : _). table_by A limit (record { line = l; table = e.table }) d.height 0) is;
      }

  pub carried_shift : (h : Float) (e : Entry A) (es : List (Entry A)) (o : Outcome) (os : List Outcome) (j : ℕ)
      → carried A (carried_after_entry A e.line o.verdict h) es os j ≡ carried A h (e ∷ es) (o ∷ os) (suc j)
  unfolding carried
  carried_shift h e es o os zero = refl
  carried_shift h e es o os (suc j) = ap (carried_after_entry A (line_at es j) (outcome_at os j).verdict) (carried_shift h e es o os j)

  pub height_shift : (d : Deck) (e : Entry A) → (deck_after A limit d e).height ≡ carried_after_entry A e.line (outcome_on A limit d e).verdict d.height
  unfolding outcome_on
  height_shift d e = height_past A L limit d e

  -- of every card that a run accepts, the height that it finds and its table
  abbrev pub OfAccepted : (A.Card → Float → List Float → Type 0) → List (Entry A) → Deck → Type 0
  OfAccepted P es d =
      (j : ℕ) (c : A.Card) → Accepted A es (run A limit d es) j c → P c (carried A d.height es (run A limit d es) j) (outcome_at (run A limit d es) j).table

  pub run_accepted : (es : List (Entry A)) (d : Deck) → OfAccepted (AcceptedCard A) es d
  unfolding run carried
  run_accepted [] d j c a = let z : ⊥ = omega (arith, a.verdict) in absurd z
  run_accepted (e ∷ es) d zero c a = card_accepted d e c a.is_card a.verdict
  run_accepted (e ∷ es) d (suc j) c a =
      let d' = deck_after A limit d e in
      let o = outcome_on A limit d e in
      subst (λ (h : Float). AcceptedCard A c h (outcome_at (run A limit d' es) j).table)
      (ap (λ (h : Float). carried A h es (run A limit d' es) j) (height_shift d e) ∙ carried_shift d.height e es o (run A limit d' es) j)
      (run_accepted es d' j c (record { is_card = a.is_card; verdict = a.verdict }))

  pub run_rules : (es : List (Entry A)) (d : Deck) → OfAccepted (CardRules A) es d
  run_rules es d j c a =
      let x = run_accepted es d j c a in
      rw x.table (table_rules c _ x.passes)
