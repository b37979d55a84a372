-- Demand 3, as one statement about a list of entries and the one that is removed. Definitions only.
-- Two floats are equal here if their bits are; there is one NaN.
use Rattle.std.specs.Prelude.{◌≡◌, not, ◌||◌, List, [], ◌⊎◌, ◌≢◌, ℕ, zero, suc, ◌+◌, ◌-◌, ◌<◌, ◌≤◌, length, get_or, T, eqb, Float}
use Rattle.std.specs.Float.{nan}
use Rattle.single.specs.Single.{num}
use Rattle.table.specs.Table.{row_count, column_count, gain_at}
use Rattle.independence.specs.Antenna.{Antenna, floor_plus, AboveFloor, carries_height, has_second_call, height_left}
use Rattle.independence.specs.Filling.{call_at, rows_of}
use Rattle.independence.specs.Deck.{Line, card, malformed, Entry, Outcome, without}

-- ---- places, from 0. Beyond a list stands a malformed line, refused, without a table
abbrev pub line_at : {A : Antenna} → List (Entry A) → ℕ → Line A
line_at entries j = (get_or entries j (record { line = malformed; table = [] })).line

abbrev pub outcome_at : List Outcome → ℕ → Outcome
outcome_at outcomes j = get_or outcomes j (record { verdict = 8; table = [] })

abbrev pub cell : List Float → ℕ → Float
cell t i = get_or t i (num 0 1)

-- the term "ground": 0 degrees. Where the ground gain at m MHz stands
abbrev pub ground_at : ℕ → ℕ
ground_at m = gain_at m 0

-- entry j is the card c, and it is accepted
pub record Accepted (A : Antenna) (entries : List (Entry A)) (outcomes : List Outcome) (j : ℕ) (c : A.Card) : Type 0 where
  pub is_card : line_at entries j ≡ card c
  pub verdict : (outcome_at outcomes j).verdict ≡ 0

-- ---- "every other card has the same verdict and the same table in both runs. One cell alone may differ:"
pub record SameBut (may_differ : ℕ → Type 0) (o o' : Outcome) : Type 0 where
  pub verdict : o.verdict ≡ o'.verdict
  pub length : length o.table ≡ length o'.table
  pub cells : (i : ℕ) → (may_differ i → ⊥) → cell o.table i ≡ cell o'.table i

-- in a list without its entry k: entry j is the next accepted card after the removed one, and those between are refused
pub record NextAccepted (A : Antenna) (entries : List (Entry A)) (outcomes : List Outcome) (k j : ℕ) (c : A.Card) : Type 0 where
  pub after : k ≤ j
  pub accepted : Accepted A entries outcomes j c
  pub between : (n : ℕ) → k ≤ n → n < j → (outcome_at outcomes n).verdict ≢ 0

-- "the ground gain in the lowest row of the next accepted card after the struck one, where that is type 2 or 5": cell i of entry j.
-- The lowest row is the first filled one
pub record MayDiffer (A : Antenna) (entries : List (Entry A)) (outcomes : List Outcome) (k j i : ℕ) : Type 0 where
  pub the_card : A.Card
  pub next : NextAccepted A entries outcomes k j the_card
  pub type : T (carries_height (A.type_of the_card))
  pub on_ground : i ≡ ground_at (A.first the_card)

module _ (A : Antenna) where
  -- ---- section 8: the carried height h, by the list and its verdicts alone
  -- a card takes its rows by rising MHz: the ground cell finds h, then the cells above it set h. After n rows:
  unfoldable pub carried_after_rows : A.Card → Float → ℕ → Float
  carried_after_rows c h zero = h
  carried_after_rows c h (suc n) = height_left A c (A.first c + n)

  -- as the ground cell at m MHz finds it
  abbrev pub carried_at_row : A.Card → Float → ℕ → Float
  carried_at_row c h m = carried_after_rows c h (m - A.first c)

  -- an accepted card takes its rows, a refused entry leaves h
  abbrev pub carried_after_entry : Line A → ℕ → Float → Float
  carried_after_entry (card c) zero h = carried_after_rows c h (rows_of A c)
  carried_after_entry (card c) (suc v) h = h
  carried_after_entry malformed v h = h

  -- as entry j finds it in a run that begins at h
  unfoldable pub carried : Float → List (Entry A) → List Outcome → ℕ → Float
  carried h entries outcomes zero = h
  carried h entries outcomes (suc j) = carried_after_entry (line_at entries j) (outcome_at outcomes j).verdict (carried h entries outcomes j)

  -- ---- the rules of an accepted card c that finds the height h and leaves the table t. Its filled rows are first to last MHz
  pub record CardRules (c : A.Card) (h : Float) (t : List Float) : Type 0 where
    -- "each ground gain in a filled row outside types 3 and 4 is the single-precision sum of -30 and its type's efficiency (type 8's is zero there).
    -- For types 2 and 5 that is taken at the height left by the last cell of an accepted card before it"
    pub on_ground : T (not (has_second_call (A.type_of c))) → (m : ℕ) → A.first c ≤ m → m ≤ A.last c
        → cell t (ground_at m) ≡ floor_plus (A.efficiency_of (A.type_of c) (carried_at_row c h m))
    pub ground_of8 : A.type_of c ≡ 8 → (m : ℕ) → A.first c ≤ m → m ≤ A.last c → cell t (ground_at m) ≡ floor_plus (num 0 1)
    -- "outside types 2, 3 and 4, every gain of an accepted card, where it is a number, is above -30 or equals -30 plus that cell's efficiency"
    pub every_gain : T (not (eqb (A.type_of c) 2 || has_second_call (A.type_of c))) → (m d : ℕ) → 1 ≤ m → m ≤ row_count → d < column_count → cell t (gain_at m d) ≢ nan
        → AboveFloor (cell t (gain_at m d))
        ⊎ ((A.first c ≤ m) × (m ≤ A.last c) × (cell t (gain_at m d) ≡ floor_plus (call_at A c m (carried_at_row c h m) d).efficiency))

  -- of all accepted cards of a run, which begins at the height 0
  abbrev pub Rules : List (Entry A) → List Outcome → Type 0
  Rules entries outcomes =
      (j : ℕ) (c : A.Card) → Accepted A entries outcomes j c → CardRules c (carried (num 0 1) entries outcomes j) (outcome_at outcomes j).table

  -- ---- the demand: of a list and the outcomes of its run, and of the list without its entry k and the outcomes of its run
  pub record Demand3 (entries : List (Entry A)) (outcomes : List Outcome) (k : ℕ) (outcomes_without : List Outcome) : Type 0 where
    -- each entry has one outcome
    pub complete : length outcomes ≡ length entries
    pub complete_without : length outcomes_without ≡ length (without k entries)
    -- every other entry has the same outcome in both, but for one cell
    pub same : (j : ℕ) → SameBut (MayDiffer A (without k entries) outcomes_without k j) (outcome_at (without k outcomes) j) (outcome_at outcomes_without j)
    -- and in both the rules hold
    pub rules : Rules entries outcomes
    pub rules_without : Rules (without k entries) outcomes_without
