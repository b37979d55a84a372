-- The laws of the gain call that demand 3 rests on. All are of cards that pass their tests, at the MHz that they fill.
use Rattle.std.specs.Prelude.{◌≡◌, not, ◌||◌, ◌⊎◌, ◌≢◌, ℕ, suc, ◌<◌, ◌≤◌, T, eqb, Float}
use Rattle.std.specs.Float.{nan}
use Rattle.std.specs.Float.Ieee.Scale.{finite}
use Rattle.single.specs.Single.{num}
use Rattle.table.specs.Table.{row_count, column_count}
use Rattle.independence.specs.Antenna.{Antenna, floor_plus, AboveFloor, carries_height, has_second_call, height_left}

-- the term "filled rows": first to last MHz of a card, here of one that passes the tests of its input
pub record Fills (A : Antenna) (c : A.Card) (m : ℕ) : Type 0 where
  pub passes : A.input_refusal c ≡ 0
  pub low : A.first c ≤ m
  pub high : m ≤ A.last c

pub record Laws (A : Antenna) : Type 0 where
  -- refusal 4
  pub range : (c : A.Card) → A.input_refusal c ≡ 0 → (1 ≤ A.first c) × (A.first c ≤ A.last c) × (A.last c ≤ row_count)
  -- neither the tests of the input nor a call refuse by the deck's own numbers
  pub input_number : (c : A.Card) → (A.input_refusal c ≢ 9) × (A.input_refusal c ≢ 10)
  pub call_number : (c : A.Card) (m d : ℕ) (h : Float) → Fills A c m → d < column_count → ((A.call c m d h).refusal ≢ 9) × ((A.call c m d h).refusal ≢ 10)
  -- above the ground nothing depends on the incoming height, and the height left is the card's own
  pub above : (c : A.Card) (m d : ℕ) (h h' : Float) → Fills A c m → suc d < column_count → A.call c m (suc d) h ≡ A.call c m (suc d) h'
  pub leaves : (c : A.Card) (m d : ℕ) (h : Float) → Fills A c m → suc d < column_count → (A.call c m (suc d) h).refusal ≡ 0 → (A.call c m (suc d) h).height ≡ height_left A c m
  pub finite_height : (c : A.Card) (m : ℕ) → Fills A c m → T (finite (height_left A c m))
  -- on the ground the refusal does not depend on it, nor does the gain of types 3 and 4; the gain of the others is -30 plus the type's efficiency
  pub ground_refusal : (c : A.Card) (m : ℕ) (h h' : Float) → Fills A c m → (A.call c m 0 h).refusal ≡ (A.call c m 0 h').refusal
  pub ground_same : (c : A.Card) (m : ℕ) (h h' : Float) → Fills A c m → T (has_second_call (A.type_of c)) → (A.call c m 0 h).gain ≡ (A.call c m 0 h').gain
  pub ground_gain : (c : A.Card) (m : ℕ) (h : Float) → Fills A c m → T (not (has_second_call (A.type_of c))) → (A.call c m 0 h).refusal ≡ 0
      → (A.call c m 0 h).gain ≡ floor_plus (A.efficiency_of (A.type_of c) h)
  -- the efficiency on the ground depends on it for types 2 and 5 alone; type 8's is zero
  pub efficiency_same : (kop : ℕ) (h h' : Float) → T (not (carries_height kop)) → A.efficiency_of kop h ≡ A.efficiency_of kop h'
  pub efficiency_of8 : (h : Float) → A.efficiency_of 8 h ≡ num 0 1
  -- outside types 2, 3 and 4 a gain that is a number is above -30 or is -30 plus its efficiency
  pub floored : (c : A.Card) (m d : ℕ) (h : Float) → Fills A c m → d < column_count → T (not (eqb (A.type_of c) 2 || has_second_call (A.type_of c))) → (A.call c m d h).refusal ≡ 0
      → ((A.call c m d h).gain ≡ nan) ⊎ (AboveFloor (A.call c m d h).gain ⊎ ((A.call c m d h).gain ≡ floor_plus (A.call c m d h).efficiency))
