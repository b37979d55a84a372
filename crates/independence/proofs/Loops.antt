-- The loops that fill a row and a card, on plain variables, over any antenna that keeps the laws: they start, they step, they stop at a refusal, they end. Assumes nothing.
use mathlib.Core.Path.{◌≡◌, refl, sym, ap, ap₂, ◌∙◌, subst}
use mathlib.Core.List.{List}
use mathlib.Core.Logic.{◌⊎◌, inl, inr, ◌≢◌}
use Prim.Native.Nat.{ℕ, zero, suc, ◌+◌, ◌<◌, ◌≤◌}
use native.Mathlib.Omega.{arith}
use native.Mathlib.Numerals.{add-one}
use native.Mathlib.Nat.{eq-or-lt_of_le, le_of_suc-le-suc, not-suc-le-zero}
use lib.ListN.{length, set, length-set}
use lib.Ieee.{Float}
use Rattle.table.specs.Table.{column_count, gain_at, efficiency_at}
use Rattle.independence.specs.Antenna.{Antenna, Answer, height_left}
use Rattle.independence.specs.Laws.{Fills, Laws}
use Rattle.independence.specs.Filling.{first_of, call_at, height_at, cells_refusal, gains_in, row_in, height_after, rows_refusal, rows_in, rows_of}
use Rattle.independence.specs.EntryContracts.{RowDone, CardDone}
use Rattle.independence.proofs.Rows.{row_height}

-- ---- the invariants
module _ (A : Antenna) where
  -- The gains of a row at m MHz below d degrees: t₁, in which the ground gain stands, becomes t. Above the ground no gain depends on the incoming height h.
  -- It is the invariant of the loop from 1 degree on and, at 91, what the loop gives.
  pub record GainsStored (c : A.Card) (m : ℕ) (t₁ t : List Float) (d : ℕ) : Type 0 where
    pub low : 1 ≤ d
    pub top : d ≤ column_count
    pub length : length t ≡ length t₁
    pub table : (h : Float) (t₀ : List Float) → t₁ ≡ set t₀ (gain_at m 0) (A.call c m 0 h).gain → t ≡ gains_in A c m h d t₀

  -- a card's rows, after n of them, with the height x
  pub record CardInv (c : A.Card) (h : Float) (t₀ t : List Float) (x : Float) (n : ℕ) : Type 0 where
    pub top : n ≤ rows_of A c
    pub length : length t ≡ length t₀
    pub none : rows_refusal A c h n ≡ 0
    pub height : x ≡ height_after A c h n
    pub table : t ≡ rows_in A c h n t₀

module _ (A : Antenna) (L : Laws A) where
  -- ---- a row: its refusal, once known for all cells above the ground, and its cells
  none_or : (r : ℕ) (a : ℕ) → (a ≡ 0) ⊎ (a ≡ r) → first_of a r ≡ r
  none_or r a (inl e) = ap (λ (x : ℕ). first_of x r) e
  none_or r a (inr e) = ap (λ (x : ℕ). first_of x r) e ∙ twice r
    where
      twice : (n : ℕ) → first_of n n ≡ n
      twice zero = refl
      twice (suc n) = refl

  module _ (c : A.Card) (m : ℕ) (h : Float) (r : ℕ) (ground : (x : Float) → ((A.call c m 0 x).refusal ≡ 0) ⊎ ((A.call c m 0 x).refusal ≡ r)) (above : (d : ℕ) (x : Float) → d < 90 → (A.call c m (suc d) x).refusal ≡ r) where
    cells_refusal_is : (d : ℕ) → d < 90 → cells_refusal A c m h (suc (suc d)) ≡ r
    unfolding cells_refusal height_at
    cells_refusal_is zero l = ap (first_of (A.call c m 0 h).refusal) (above 0 (A.call c m 0 h).height l) ∙ none_or r (A.call c m 0 h).refusal (ground h)
    cells_refusal_is (suc d) l = ap₂ first_of (cells_refusal_is d (omega arith)) (above (suc d) (height_at A c m h (suc (suc d))) l) ∙ none_or r r (inr refl)

    -- the row part refuses by r (0 if not): so does the row
    pub row_refusal : cells_refusal A c m h 91 ≡ r
    row_refusal = cells_refusal_is 89 (omega arith)

  pub row_start : (c : A.Card) (m : ℕ) (t₁ : List Float) → GainsStored A c m t₁ t₁ 1
  unfolding gains_in height_at
  row_start c m t₁ = record { low = omega arith; top = omega arith; length = refl; table = λ h t₀ e. e }

  -- a call above the ground, made with any height x
  above_any : (c : A.Card) (m : ℕ) (h x : Float) (d : ℕ) → Fills A c m → 1 ≤ d → d < 91 → A.call c m d x ≡ call_at A c m h d
  above_any c m h x zero F l k = absurd (not-suc-le-zero l)
  above_any c m h x (suc d) F l k = L.above c m d x (height_at A c m h (suc d)) F k

  -- v is stored at i
  pub row_step : (c : A.Card) (m : ℕ) (x : Float) (t₁ t : List Float) (d i : ℕ) (v : Float) → Fills A c m → GainsStored A c m t₁ t d → d < 91
      → i ≡ gain_at m d → v ≡ (A.call c m d x).gain
      → GainsStored A c m t₁ (set t i v) (d + 1)
  unfolding gains_in
  row_step c m x t₁ t d i v F s k at e =
      rw (add-one, at)
      (record {
        low = omega arith;
        top = k;
        length = length-set t (gain_at m d) v ∙ s.length;
        table = λ h t₀ p. ap₂ (λ (l : List Float) (a : Float). set l (gain_at m d) a) (s.table h t₀ p) (e ∙ ap (λ (a : Answer). a.gain) (above_any c m h x d F s.low k));
      })

  pub row_done : (c : A.Card) (m : ℕ) (t₁ t : List Float) (d : ℕ) → GainsStored A c m t₁ t d → 91 ≤ d → GainsStored A c m t₁ t 91
  row_done c m t₁ t d s l = let top : d ≡ 91 = omega (arith, s.top) in subst (GainsStored A c m t₁ t) top s

  pub row_stops : (c : A.Card) (m : ℕ) (h : Float) (t₀ t : List Float) (r : ℕ) (y : Float) → length t ≡ length t₀ → r ≢ 0 → r ≡ cells_refusal A c m h 91
      → RowDone A c m h t₀ t r y
  row_stops c m h t₀ t r y l n e = record { verdict = e; length = l; table = λ z. absurd (n z); height = λ z. absurd (n z) }

  -- g was stored at i₀ for the ground cell; v, the efficiency of the 90-degree call made with any height x, is stored at i; y is the height that the row leaves
  pub row_ends : (c : A.Card) (m : ℕ) (h x : Float) (t₀ t : List Float) (i₀ d i : ℕ) (g v y : Float) → Fills A c m → GainsStored A c m (set t₀ i₀ g) t d
      → 91 ≤ d → 0 ≡ cells_refusal A c m h 91
      → i₀ ≡ gain_at m 0 → g ≡ (A.call c m 0 h).gain → i ≡ efficiency_at m → v ≡ (A.call c m 90 x).efficiency → y ≡ height_left A c m
      → RowDone A c m h t₀ (set t i v) 0 y
  unfolding row_in
  row_ends c m h x t₀ t i₀ d i g v y F s l none at₀ e₀ at e left =
      let top : d ≡ 91 = omega (arith, s.top) in
      let gains : t ≡ gains_in A c m h 91 t₀ = s.table h t₀ (ap₂ (set t₀) at₀ e₀) ∙ ap (λ (n : ℕ). gains_in A c m h n t₀) top in
      rw at
      (record {
        verdict = none;
        length = length-set t (efficiency_at m) v ∙ s.length ∙ length-set t₀ i₀ g;
        table = λ z. ap₂ (λ (l : List Float) (a : Float). set l (efficiency_at m) a) gains (e ∙ ap (λ (a : Answer). a.efficiency) (above_any c m h x 90 F (omega arith) (omega arith)));
        height = λ z. left ∙ sym (row_height A L c m h F (sym none));
      })

  -- ---- a card
  pub card_start : (c : A.Card) (h : Float) (t : List Float) → CardInv A c h t t h 0
  unfolding rows_refusal height_after rows_in
  card_start c h t = record { top = omega arith; length = refl; none = refl; height = refl; table = refl }

  row_verdict : (c : A.Card) (h : Float) (t t' : List Float) (x y : Float) (n r : ℕ) → rows_refusal A c h n ≡ 0 → x ≡ height_after A c h n
      → RowDone A c (A.first c + n) x t t' r y → rows_refusal A c h (suc n) ≡ r
  unfolding rows_refusal
  row_verdict c h t t' x y n r none same done =
      ap₂ first_of none (ap (λ (k : Float). cells_refusal A c (A.first c + n) k 91) (sym same) ∙ sym done.verdict)

  pub card_step : (c : A.Card) (h : Float) (t₀ t t' : List Float) (x y : Float) (n r : ℕ) → CardInv A c h t₀ t x n → n < rows_of A c
      → RowDone A c (A.first c + n) x t t' r y → r ≡ 0
      → CardInv A c h t₀ t' y (n + 1)
  unfolding height_after rows_in
  card_step c h t₀ t t' x y n r i l done z =
      rw add-one
      (record {
        top = l;
        length = done.length ∙ i.length;
        none = row_verdict c h t t' x y n r i.none i.height done ∙ z;
        height = done.height z ∙ ap (λ (k : Float). height_at A c (A.first c + n) k 91) i.height;
        table = done.table z ∙ ap₂ (λ (k : Float) (l : List Float). row_in A c (A.first c + n) k l) i.height i.table;
      })

  -- a refusal stays
  stays : (c : A.Card) (h : Float) (i n v : ℕ) → i ≤ n → rows_refusal A c h i ≡ suc v → rows_refusal A c h n ≡ suc v
  unfolding rows_refusal
  stays c h i zero v l e = let z : i ≡ 0 = omega arith in subst (λ (k : ℕ). rows_refusal A c h k ≡ suc v) z e
  stays c h i (suc n) v l e =
      elim (eq-or-lt_of_le l) [
        | inl p ↦ subst (λ (k : ℕ). rows_refusal A c h k ≡ suc v) p e
        | inr q ↦ ap (λ (k : ℕ). first_of k (cells_refusal A c (A.first c + n) (height_after A c h n) 91)) (stays c h i n v (le_of_suc-le-suc q) e)
      ]

  pub card_stops : (c : A.Card) (h : Float) (t₀ t t' : List Float) (x y z : Float) (n r : ℕ) → CardInv A c h t₀ t x n → n < rows_of A c
      → RowDone A c (A.first c + n) x t t' r y → r ≢ 0
      → CardDone A c h t₀ t' r z
  card_stops c h t₀ t t' x y z n r i l done bad =
      record { verdict = go r bad (row_verdict c h t t' x y n r i.none i.height done); length = done.length ∙ i.length; table = λ e. absurd (bad e); height = λ e. absurd (bad e) }
    where
      go : (r : ℕ) → r ≢ 0 → rows_refusal A c h (suc n) ≡ r → r ≡ rows_refusal A c h (rows_of A c)
      go zero b s = absurd (b refl)
      go (suc r) b s = sym (stays c h (suc n) (rows_of A c) r l s)

  pub card_ends : (c : A.Card) (h : Float) (t₀ t : List Float) (x : Float) (n : ℕ) → CardInv A c h t₀ t x n → rows_of A c ≤ n → CardDone A c h t₀ t 0 x
  card_ends c h t₀ t x n i l =
      let top : n ≡ rows_of A c = omega (arith, i.top) in
      record {
        verdict = sym i.none ∙ ap (rows_refusal A c h) top;
        length = i.length;
        table = λ y. i.table ∙ ap (λ (k : ℕ). rows_in A c h k t₀) top;
        height = λ y. i.height ∙ ap (height_after A c h) top;
      }
