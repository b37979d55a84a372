-- What a deck takes from document 01 sections 2 to 6: cards, their refusals from the input, and the gain call of a cell. Definitions only.
use Rattle.std.specs.Prelude.{ℕ, Bool, ◌||◌, cond, T, eqb, Float}
use Rattle.std.specs.Float.Ieee.{lt}
use Rattle.single.specs.Single.{◌⊞◌, num}
use Rattle.finish.specs.Finish.{floor}

-- what a gain call answers: its refusal (0 if accepted), the gain, the efficiency and the height left.
-- Document 01's term "a cell's efficiency": the one that its own call answers
pub record Answer : Type 0 where
  pub refusal : ℕ
  pub gain : Float
  pub efficiency : Float
  pub height : Float

pub record Antenna : Type 1 where
  -- the term "card" of section 8: type, first and last MHz, off-azimuth, 20 slots and `Model`
  pub Card : Type 0
  -- the type, 1 to 10, and the first and last whole MHz
  pub type_of : Card → ℕ
  pub first : Card → ℕ
  pub last : Card → ℕ
  -- refusals 1 to 5 in their order: the number of the first that holds, 0 if none does
  pub input_refusal : Card → ℕ
  -- the gain call at MHz, degrees and incoming height
  pub call : Card → ℕ → ℕ → Float → Answer
  -- the term "its type's efficiency": the one that `finish` gives the type in a call on the ground at a height
  pub efficiency_of : ℕ → Float → Float
  -- the card's height in wavelengths at MHz
  pub wavelengths : Card → ℕ → Float

-- the term "-30 plus an efficiency": their single-precision sum
unfoldable pub floor_plus : Float → Float
floor_plus efficiency = floor ⊞ efficiency

-- a gain that is "above -30"
abbrev pub AboveFloor : Float → Type 0
AboveFloor gain = T (lt floor gain)

-- types 2 and 5 carry their height; types 3 and 4 call a second time, straight up
abbrev pub carries_height : ℕ → Bool
carries_height kop = eqb kop 2 || eqb kop 5

abbrev pub has_second_call : ℕ → Bool
has_second_call kop = eqb kop 3 || eqb kop 4

-- section 5: what the cells above the ground set the carried height to
unfoldable pub height_left : (A : Antenna) → A.Card → ℕ → Float
height_left A c m = cond (carries_height (A.type_of c)) (A.wavelengths c m) (num 1 1)
