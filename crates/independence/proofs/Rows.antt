-- The filling of a table, over any antenna that keeps the laws: its refusal and the heights, what it leaves in each cell, and that one cell alone depends on the incoming height. Assumes nothing.
use mathlib.Core.Path.{◌≡◌, refl, sym, ap, ap₂, ◌∙◌, subst}
use mathlib.Core.Bool.{Bool, true, false, not}
use mathlib.Core.List.{List}
use mathlib.Core.Logic.{◌⊎◌, inl, inr, ◌≢◌}
use Prim.Native.Nat.{ℕ, zero, suc, ◌+◌, ◌<◌, ◌≤◌}
use native.Mathlib.Omega.{arith}
use native.Mathlib.Nat.{add-zero, eq-or-lt_of_le, le_of_suc-le-suc, not-suc-le-zero}
use lib.ListN.{length, set, length-set, length-replicate, get_or-replicate}
use lib.Seq.{get_or-set_same, get_or-set_other, set-set, set_comm, set-get_or}
use lib.Dec.{T}
use lib.Ieee.{Float}
use Rattle.single.specs.Single.{num}
use Rattle.table.specs.Table.{gain_at, efficiency_at, cleared}
use Rattle.independence.specs.Antenna.{Antenna, Answer, floor_plus, carries_height, has_second_call, height_left}
use Rattle.independence.specs.Laws.{Fills, Laws}
use Rattle.independence.specs.Filling.{first_of, height_at, call_at, cells_refusal, gains_in, row_in, height_after, rows_refusal, rows_in}
use Rattle.independence.specs.Demand3.{cell, carried_after_rows}

-- ---- places in the table
other_degree : (m d e : ℕ) → d ≢ e → gain_at m d ≢ gain_at m e
other_degree m d e h = omega arith

other_row : (m m' d e : ℕ) → 1 ≤ m → 1 ≤ m' → m ≢ m' → d < 91 → e < 91 → gain_at m d ≢ gain_at m' e
other_row m m' d e l l' h k k' = omega arith

no_efficiency : (m m' d : ℕ) → m ≤ 30 → d < 91 → gain_at m d ≢ efficiency_at m'
no_efficiency m m' d h k = omega arith

pub cleared_length : length cleared ≡ 2760
unfolding cleared
cleared_length = length-replicate 2760 (num 0 1)

pub cleared_cell : (m d : ℕ) → m ≤ 30 → d < 91 → cell cleared (gain_at m d) ≡ num 0 1
unfolding cleared
cleared_cell m d top k = get_or-replicate 2760 (gain_at m d) (num 0 1) (num 0 1) (omega arith)

-- ---- the first of two refusals
pub first-none : (a b : ℕ) → first_of a b ≡ 0 → a ≡ 0
first-none zero b e = refl
first-none (suc a) b e = e

pub second_none : (a b : ℕ) → first_of a b ≡ 0 → b ≡ 0
second_none zero b e = e
second_none (suc a) b e = let z : ⊥ = omega arith in absurd z

module _ (A : Antenna) (L : Laws A) where
  -- ---- refusals do not depend on the incoming height
  pub cells_refusal_same : (c : A.Card) (m : ℕ) (h h' : Float) (d : ℕ) → Fills A c m → d ≤ 91 → cells_refusal A c m h d ≡ cells_refusal A c m h' d
  unfolding cells_refusal height_at
  cells_refusal_same c m h h' zero F l = refl
  cells_refusal_same c m h h' (suc zero) F l = L.ground_refusal c m h h' F
  cells_refusal_same c m h h' (suc (suc d)) F l =
      ap₂ first_of (cells_refusal_same c m h h' (suc d) F (omega arith))
      (ap (λ (a : Answer). a.refusal) (L.above c m d (height_at A c m h (suc d)) (height_at A c m h' (suc d)) F (omega arith)))

  row_fills : (c : A.Card) (i n : ℕ) → A.input_refusal c ≡ 0 → i < n → A.first c + n ≤ suc (A.last c) → Fills A c (A.first c + i)
  row_fills c i n p l top = record { passes = p; low = omega arith; high = omega arith }

  pub rows_refusal_same : (c : A.Card) (h h' : Float) (n : ℕ) → A.input_refusal c ≡ 0 → A.first c + n ≤ suc (A.last c)
      → rows_refusal A c h n ≡ rows_refusal A c h' n
  unfolding rows_refusal
  rows_refusal_same c h h' zero p l = refl
  rows_refusal_same c h h' (suc n) p l =
      let m = A.first c + n in
      ap₂ first_of (rows_refusal_same c h h' n p (omega arith))
      (cells_refusal_same c m (height_after A c h n) (height_after A c h' n) 91 (row_fills c n (suc n) p (omega arith) l) (omega arith))

  -- ---- no refusal at the end: none before
  pub call_accepted : (c : A.Card) (m : ℕ) (h : Float) (n d : ℕ) → cells_refusal A c m h n ≡ 0 → d < n → (call_at A c m h d).refusal ≡ 0
  unfolding cells_refusal
  call_accepted c m h zero d e l = absurd (not-suc-le-zero l)
  call_accepted c m h (suc n) d e l =
      elim (eq-or-lt_of_le (le_of_suc-le-suc l)) [
        | inl p ↦ subst (λ (k : ℕ). (call_at A c m h k).refusal ≡ 0) (sym p) (second_none (cells_refusal A c m h n) (call_at A c m h n).refusal e)
        | inr q ↦ call_accepted c m h n d (first-none (cells_refusal A c m h n) (call_at A c m h n).refusal e) q
      ]

  fewer_rows : (c : A.Card) (h : Float) (n : ℕ) → rows_refusal A c h (suc n) ≡ 0 → rows_refusal A c h n ≡ 0
  unfolding rows_refusal
  fewer_rows c h n e = first-none (rows_refusal A c h n) (cells_refusal A c (A.first c + n) (height_after A c h n) 91) e

  last_row : (c : A.Card) (h : Float) (n : ℕ) → rows_refusal A c h (suc n) ≡ 0 → cells_refusal A c (A.first c + n) (height_after A c h n) 91 ≡ 0
  unfolding rows_refusal
  last_row c h n e = second_none (rows_refusal A c h n) (cells_refusal A c (A.first c + n) (height_after A c h n) 91) e

  pub row_accepted : (c : A.Card) (h : Float) (n i : ℕ) → rows_refusal A c h n ≡ 0 → i < n
      → (rows_refusal A c h i ≡ 0) × (cells_refusal A c (A.first c + i) (height_after A c h i) 91 ≡ 0)
  row_accepted c h zero i e l = absurd (not-suc-le-zero l)
  row_accepted c h (suc n) i e l =
      elim (eq-or-lt_of_le (le_of_suc-le-suc l)) [
        | inl p ↦ subst (λ (k : ℕ). (rows_refusal A c h k ≡ 0) × (cells_refusal A c (A.first c + k) (height_after A c h k) 91 ≡ 0)) (sym p) (fewer_rows c h n e, last_row c h n e)
        | inr q ↦ row_accepted c h n i (fewer_rows c h n e) q
      ]

  -- ---- the heights of the filling are those of the recursion
  pub row_height : (c : A.Card) (m : ℕ) (h : Float) → Fills A c m → cells_refusal A c m h 91 ≡ 0 → height_at A c m h 91 ≡ height_left A c m
  unfolding height_at
  row_height c m h F e = L.leaves c m 89 (height_at A c m h 90) F (omega arith) (call_accepted c m h 91 90 e (omega arith))

  pub height_carried : (c : A.Card) (h : Float) (n : ℕ) → A.input_refusal c ≡ 0 → A.first c + n ≤ suc (A.last c) → rows_refusal A c h n ≡ 0
      → height_after A c h n ≡ carried_after_rows A c h n
  unfolding height_after carried_after_rows
  height_carried c h zero p l e = refl
  height_carried c h (suc n) p l e = row_height c (A.first c + n) (height_after A c h n) (row_fills c n (suc n) p (omega arith) l) (last_row c h n e)

  -- ---- lengths
  pub gains_length : (c : A.Card) (m : ℕ) (h : Float) (d : ℕ) (t : List Float) → length (gains_in A c m h d t) ≡ length t
  unfolding gains_in
  gains_length c m h zero t = refl
  gains_length c m h (suc d) t = length-set (gains_in A c m h d t) (gain_at m d) (call_at A c m h d).gain ∙ gains_length c m h d t

  row_length : (c : A.Card) (m : ℕ) (h : Float) (t : List Float) → length (row_in A c m h t) ≡ length t
  unfolding row_in
  row_length c m h t = length-set (gains_in A c m h 91 t) (efficiency_at m) (call_at A c m h 90).efficiency ∙ gains_length c m h 91 t

  pub rows_length : (c : A.Card) (h : Float) (n : ℕ) (t : List Float) → length (rows_in A c h n t) ≡ length t
  unfolding rows_in
  rows_length c h zero t = refl
  rows_length c h (suc n) t = row_length c (A.first c + n) (height_after A c h n) (rows_in A c h n t) ∙ rows_length c h n t

  -- ---- what stands in a filled row, and in the others
  gains_cell : (c : A.Card) (m : ℕ) (h : Float) (n d : ℕ) (t : List Float) → m ≤ 30 → d < 91 → length t ≡ 2760 → d < n
      → cell (gains_in A c m h n t) (gain_at m d) ≡ (call_at A c m h d).gain
  unfolding gains_in
  gains_cell c m h zero d t top k len l = absurd (not-suc-le-zero l)
  gains_cell c m h (suc n) d t top k len l =
      elim (eq-or-lt_of_le (le_of_suc-le-suc l)) [
        | inl p ↦
            subst (λ (j : ℕ). cell (set (gains_in A c m h n t) (gain_at m j) (call_at A c m h j).gain) (gain_at m d) ≡ (call_at A c m h d).gain) p
            (get_or-set_same (gains_in A c m h n t) (gain_at m d) (call_at A c m h d).gain (num 0 1) (omega (arith, gains_length c m h n t)))
        | inr q ↦
            get_or-set_other (gains_in A c m h n t) (gain_at m n) (gain_at m d) (call_at A c m h n).gain (num 0 1) (other_degree m d n (omega arith))
            ∙ gains_cell c m h n d t top k len q
      ]

  gains_other : (c : A.Card) (m : ℕ) (h : Float) (n m' d : ℕ) (t : List Float) → 1 ≤ m → 1 ≤ m' → m' ≢ m → n ≤ 91 → d < 91
      → cell (gains_in A c m h n t) (gain_at m' d) ≡ cell t (gain_at m' d)
  unfolding gains_in
  gains_other c m h zero m' d t l l' ne k k' = refl
  gains_other c m h (suc n) m' d t l l' ne k k' =
      get_or-set_other (gains_in A c m h n t) (gain_at m n) (gain_at m' d) (call_at A c m h n).gain (num 0 1) (other_row m' m d n l' l ne k' k)
      ∙ gains_other c m h n m' d t l l' ne (omega arith) k'

  row_cell : (c : A.Card) (m : ℕ) (h : Float) (d : ℕ) (t : List Float) → m ≤ 30 → d < 91 → length t ≡ 2760
      → cell (row_in A c m h t) (gain_at m d) ≡ (call_at A c m h d).gain
  unfolding row_in
  row_cell c m h d t top k len =
      get_or-set_other (gains_in A c m h 91 t) (efficiency_at m) (gain_at m d) (call_at A c m h 90).efficiency (num 0 1) (no_efficiency m m d top k)
      ∙ gains_cell c m h 91 d t top k len k

  row_other : (c : A.Card) (m : ℕ) (h : Float) (m' d : ℕ) (t : List Float) → 1 ≤ m → 1 ≤ m' → m' ≤ 30 → m' ≢ m → d < 91
      → cell (row_in A c m h t) (gain_at m' d) ≡ cell t (gain_at m' d)
  unfolding row_in
  row_other c m h m' d t l l' top ne k =
      get_or-set_other (gains_in A c m h 91 t) (efficiency_at m) (gain_at m' d) (call_at A c m h 90).efficiency (num 0 1) (no_efficiency m' m d top k)
      ∙ gains_other c m h 91 m' d t l l' ne (omega arith) k

  -- after n rows, the place of each of them has the value that its row gives at the height it finds
  abbrev pub Filled : A.Card → (ℕ → ℕ) → (ℕ → Float → Float) → Type 0
  Filled c at value =
      (h : Float) (n i : ℕ) (t : List Float) → 1 ≤ A.first c → A.first c + n ≤ 31 → length t ≡ 2760 → i < n
      → cell (rows_in A c h n t) (at (A.first c + i)) ≡ value (A.first c + i) (height_after A c h i)

  -- where a row fills its own place and leaves the others'
  module _ (c : A.Card) (at : ℕ → ℕ) (value : ℕ → Float → Float)
      (fills : (m : ℕ) (h : Float) (t : List Float) → 1 ≤ m → m ≤ 30 → length t ≡ 2760 → cell (row_in A c m h t) (at m) ≡ value m h)
      (leaves : (m : ℕ) (h : Float) (m' : ℕ) (t : List Float) → 1 ≤ m → m ≤ 30 → 1 ≤ m' → m' ≤ 30 → m' ≢ m → cell (row_in A c m h t) (at m') ≡ cell t (at m')) where
    pub rows_fill : Filled c at value
    unfolding rows_in
    rows_fill h zero i t lo top len l = absurd (not-suc-le-zero l)
    rows_fill h (suc n) i t lo top len l =
        elim (eq-or-lt_of_le (le_of_suc-le-suc l)) [
          | inl p ↦
              subst
              (λ (j : ℕ). cell (row_in A c (A.first c + j) (height_after A c h j) (rows_in A c h n t)) (at (A.first c + i)) ≡ value (A.first c + i) (height_after A c h i)) p
              (fills (A.first c + i) (height_after A c h i) (rows_in A c h n t) (omega arith) (omega arith) (rows_length c h n t ∙ len))
          | inr q ↦
              leaves (A.first c + n) (height_after A c h n) (A.first c + i) (rows_in A c h n t) (omega arith) (omega arith) (omega arith) (omega arith) (omega arith)
              ∙ rows_fill h n i t lo (omega arith) len q
        ]

  pub rows_cell : (c : A.Card) (d : ℕ) → d < 91 → Filled c (λ m. gain_at m d) (λ m h. (call_at A c m h d).gain)
  rows_cell c d k =
      rows_fill c (λ m. gain_at m d) (λ m h. (call_at A c m h d).gain) (λ m h t low high long. row_cell c m h d t high k long)
      (λ m h m' t low high low' high' ne. row_other c m h m' d t low low' high' ne k)

  pub rows_other : (c : A.Card) (h : Float) (n m d : ℕ) (t : List Float) → 1 ≤ A.first c → 1 ≤ m → m ≤ 30 → d < 91 → (m < A.first c) ⊎ (A.first c + n ≤ m)
      → cell (rows_in A c h n t) (gain_at m d) ≡ cell t (gain_at m d)
  unfolding rows_in
  rows_other c h zero m d t lo l top k o = refl
  rows_other c h (suc n) m d t lo l top k o =
      row_other c (A.first c + n) (height_after A c h n) m d (rows_in A c h n t) (omega arith) l top (apart o) k
      ∙ rows_other c h n m d t lo l top k (closer o)
    where
      apart : (m < A.first c) ⊎ (A.first c + suc n ≤ m) → m ≢ A.first c + n
      apart (inl q) = omega arith
      apart (inr q) = omega arith

      closer : (m < A.first c) ⊎ (A.first c + suc n ≤ m) → (m < A.first c) ⊎ (A.first c + n ≤ m)
      closer (inl q) = inl q
      closer (inr q) = inr (omega arith)

  -- ---- two fillings, from the heights h and h': the same, once the ground cell of the lowest row is overwritten in both
  gains_same : (c : A.Card) (m : ℕ) (h h' : Float) (d : ℕ) (t : List Float) (z : Float) → Fills A c m → d ≤ 90
      → set (gains_in A c m h (suc d) t) (gain_at m 0) z ≡ set (gains_in A c m h' (suc d) t) (gain_at m 0) z
  unfolding gains_in
  gains_same c m h h' zero t z F l = set-set t (gain_at m 0) (call_at A c m h 0).gain z ∙ sym (set-set t (gain_at m 0) (call_at A c m h' 0).gain z)
  gains_same c m h h' (suc d) t z F l =
      let ne = other_degree m (suc d) 0 (omega arith) in
      set_comm (gains_in A c m h (suc d) t) (gain_at m (suc d)) (gain_at m 0) (call_at A c m h (suc d)).gain z ne
      ∙ ap₂ (λ (l : List Float) (a : Float). set l (gain_at m (suc d)) a) (gains_same c m h h' d t z F (omega arith))
      (ap (λ (k : Answer). k.gain) (L.above c m d (height_at A c m h (suc d)) (height_at A c m h' (suc d)) F (omega arith)))
      ∙ sym (set_comm (gains_in A c m h' (suc d) t) (gain_at m (suc d)) (gain_at m 0) (call_at A c m h' (suc d)).gain z ne)

  row_same : (c : A.Card) (m : ℕ) (h h' : Float) (t : List Float) (z : Float) → Fills A c m → m ≤ 30
      → set (row_in A c m h t) (gain_at m 0) z ≡ set (row_in A c m h' t) (gain_at m 0) z
  unfolding row_in
  row_same c m h h' t z F top =
      let ne : efficiency_at m ≢ gain_at m 0 = omega arith in
      set_comm (gains_in A c m h 91 t) (efficiency_at m) (gain_at m 0) (call_at A c m h 90).efficiency z ne
      ∙ ap₂ (λ (l : List Float) (a : Float). set l (efficiency_at m) a) (gains_same c m h h' 90 t z F (omega arith))
      (ap (λ (k : Answer). k.efficiency) (L.above c m 89 (height_at A c m h 90) (height_at A c m h' 90) F (omega arith)))
      ∙ sym (set_comm (gains_in A c m h' 91 t) (efficiency_at m) (gain_at m 0) (call_at A c m h' 90).efficiency z ne)

  -- a cell of an earlier row may be written before a row or after it
  gains_commute : (c : A.Card) (m : ℕ) (h : Float) (n m' : ℕ) (t : List Float) (z : Float) → 1 ≤ m' → m' < m
      → set (gains_in A c m h n t) (gain_at m' 0) z ≡ gains_in A c m h n (set t (gain_at m' 0) z)
  unfolding gains_in
  gains_commute c m h zero m' t z l k = refl
  gains_commute c m h (suc n) m' t z l k =
      let ne : gain_at m n ≢ gain_at m' 0 = omega arith in
      set_comm (gains_in A c m h n t) (gain_at m n) (gain_at m' 0) (call_at A c m h n).gain z ne
      ∙ ap (λ (l : List Float). set l (gain_at m n) (call_at A c m h n).gain) (gains_commute c m h n m' t z l k)

  row_commute : (c : A.Card) (m : ℕ) (h : Float) (m' : ℕ) (t : List Float) (z : Float) → 1 ≤ m' → m' < m → m ≤ 30
      → set (row_in A c m h t) (gain_at m' 0) z ≡ row_in A c m h (set t (gain_at m' 0) z)
  unfolding row_in
  row_commute c m h m' t z l k top =
      let ne : efficiency_at m ≢ gain_at m' 0 = omega arith in
      set_comm (gains_in A c m h 91 t) (efficiency_at m) (gain_at m' 0) (call_at A c m h 90).efficiency z ne
      ∙ ap (λ (l : List Float). set l (efficiency_at m) (call_at A c m h 90).efficiency) (gains_commute c m h 91 m' t z l k)

  pub rows_same : (c : A.Card) (h h' : Float) (n : ℕ) (t : List Float) (z : Float) → A.input_refusal c ≡ 0 → A.first c + suc n ≤ suc (A.last c)
      → rows_refusal A c h (suc n) ≡ 0
      → set (rows_in A c h (suc n) t) (gain_at (A.first c) 0) z ≡ set (rows_in A c h' (suc n) t) (gain_at (A.first c) 0) z
  unfolding rows_in height_after
  rows_same c h h' zero t z p l e =
      let r = L.range c p in
      let F : Fills A c (A.first c) = record { passes = p; low = omega arith; high = r.1 } in
      subst (λ (m : ℕ). set (row_in A c m h t) (gain_at (A.first c) 0) z ≡ set (row_in A c m h' t) (gain_at (A.first c) 0) z) (sym (add-zero (A.first c)))
      (row_same c (A.first c) h h' t z F (omega (arith, r)))
  rows_same c h h' (suc n) t z p l e =
      let r = L.range c p in
      let m = A.first c + suc n in
      let l' : A.first c + suc n ≤ suc (A.last c) = omega arith in
      let e₁ = fewer_rows c h (suc n) e in
      let e₂ : rows_refusal A c h' (suc n) ≡ 0 = sym (rows_refusal_same c h h' (suc n) p l') ∙ e₁ in
      let same : height_after A c h (suc n) ≡ height_after A c h' (suc n) = last_height c h n p l' e₁ ∙ sym (last_height c h' n p l' e₂) in
      row_commute c m (height_after A c h (suc n)) (A.first c) (rows_in A c h (suc n) t) z r.0 (omega arith) (omega (arith, r))
      ∙ ap₂ (λ (k : Float) (l : List Float). row_in A c m k l) same (rows_same c h h' n t z p l' e₁)
      ∙ sym (row_commute c m (height_after A c h' (suc n)) (A.first c) (rows_in A c h' (suc n) t) z r.0 (omega arith) (omega (arith, r)))
    where
      last_height : (c : A.Card) (h : Float) (n : ℕ) → A.input_refusal c ≡ 0 → A.first c + suc n ≤ suc (A.last c) → rows_refusal A c h (suc n) ≡ 0
          → height_after A c h (suc n) ≡ height_left A c (A.first c + n)
      last_height c h n p l e = height_carried c h (suc n) p l e ∙ (unfold carried_after_rows in refl)

  -- ---- types other than 2 and 5: the ground gain is the same from every height, so the whole table is
  ground_same_lem : (c : A.Card) (m : ℕ) (h h' : Float) → Fills A c m → (A.call c m 0 h).refusal ≡ 0 → T (not (carries_height (A.type_of c)))
      → (A.call c m 0 h).gain ≡ (A.call c m 0 h').gain
  ground_same_lem c m h h' F e other = go (has_second_call (A.type_of c)) (L.ground_same c m h h' F) (L.ground_gain c m h F) (L.ground_gain c m h' F)
    where
      go : (b : Bool) → (T b → (A.call c m 0 h).gain ≡ (A.call c m 0 h').gain)
          → (T (not b) → (A.call c m 0 h).refusal ≡ 0 → (A.call c m 0 h).gain ≡ floor_plus (A.efficiency_of (A.type_of c) h))
          → (T (not b) → (A.call c m 0 h').refusal ≡ 0 → (A.call c m 0 h').gain ≡ floor_plus (A.efficiency_of (A.type_of c) h'))
          → (A.call c m 0 h).gain ≡ (A.call c m 0 h').gain
      go true up g g' = up tt
      go false up g g' = g tt e ∙ ap floor_plus (L.efficiency_same (A.type_of c) h h' other) ∙ sym (g' tt (L.ground_refusal c m h' h F ∙ e))

  -- lists that agree once a cell is overwritten agree in the others, and are equal if they agree in that cell
  pub agree_elsewhere : (l l' : List Float) (i j : ℕ) (z : Float) → set l i z ≡ set l' i z → j ≢ i → cell l j ≡ cell l' j
  agree_elsewhere l l' i j z p ne = sym (get_or-set_other l i j z (num 0 1) ne) ∙ ap (λ (k : List Float). cell k j) p ∙ get_or-set_other l' i j z (num 0 1) ne

  agree_there : (l l' : List Float) (i : ℕ) (z : Float) → set l i z ≡ set l' i z → cell l i ≡ cell l' i → l ≡ l'
  agree_there l l' i z p q =
      sym (set-get_or l i (num 0 1))
      ∙ sym (set-set l i z (cell l i))
      ∙ ap₂ (λ (k : List Float) (a : Float). set k i a) p q
      ∙ set-set l' i z (cell l' i)
      ∙ set-get_or l' i (num 0 1)

  pub rows_steady : (c : A.Card) (h h' : Float) (n : ℕ) (t : List Float) → length t ≡ 2760 → A.input_refusal c ≡ 0 → A.first c + suc n ≤ suc (A.last c)
      → rows_refusal A c h (suc n) ≡ 0
      → T (not (carries_height (A.type_of c))) → rows_in A c h (suc n) t ≡ rows_in A c h' (suc n) t
  unfolding height_after height_at
  rows_steady c h h' n t len p l e other =
      let r = L.range c p in
      let m = A.first c + 0 in
      let k : 0 < suc n = omega arith in
      let F : Fills A c m = record { passes = p; low = omega arith; high = omega (arith, r) } in
      let read : (x : Float) → cell (rows_in A c x (suc n) t) (gain_at m 0) ≡ (A.call c m 0 x).gain = λ x. rows_cell c 0 (omega arith) x (suc n) 0 t r.0 (omega (arith, r)) len k in
      let ground : (A.call c m 0 h).gain ≡ (A.call c m 0 h').gain = ground_same_lem c m h h' F (call_accepted c m h 91 0 (row_accepted c h (suc n) 0 e k).1 (omega arith)) other in
      agree_there (rows_in A c h (suc n) t) (rows_in A c h' (suc n) t) (gain_at (A.first c) 0) (num 0 1) (rows_same c h h' n t (num 0 1) p l e)
      (subst (λ (j : ℕ). cell (rows_in A c h (suc n) t) (gain_at j 0) ≡ cell (rows_in A c h' (suc n) t) (gain_at j 0)) (add-zero (A.first c)) (read h ∙ ground ∙ sym (read h')))
