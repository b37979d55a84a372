-- Document 01, "Marked (M) and other examples": the twelve values under its eight marks, each said once. Definitions only.
-- `EachIs` reads them as equations, `all_hold` as one test.
use Rattle.std.specs.Prelude.{ℕ, ◌≡◌, Bool, true, false, ◌&&◌, List, [], ◌∷◌, ◌++◌, eqb, ℤ, pos, replicate, Float, Result, Ok, Err}
use Rattle.std.specs.Float.{binary32}
use Rattle.std.specs.Float.Ieee.{fits, neg, to_bits}
use Rattle.single.specs.Single.{◌⊞◌, num}
use Rattle.parameters.specs.declared.model.Model.TheVariants.{Compatible}
use Rattle.ioncap.specs.Gain.{gain_of}
use Rattle.ioncap.specs.declared.gain.GainCall.{GainCall}
use Rattle.gain_core.specs.declared.calls.Answer.{Answer}
use Rattle.refusals.specs.Refusals.{number_of}
use Rattle.refusals.specs.declared.Refusal.{Refusal}
use Rattle.refusals.specs.declared.Refusal.TheVariants as R
use Rattle.inverted_cone.specs.InvertedCone.{invcon_of}
use Rattle.antenna.specs.Lookups.{gain_lookup_of}
use Rattle.antenna.specs.declared.rows.GainEfficiency.{GainEfficiency}
use Rattle.output.specs.Field.{integer_field}

-- ---- an example: what is asked, and the whole answer
pub data Example : Type 0 where
  gain_is : GainCall → Float → Result Answer Refusal → Example
  cone_is : Float → Float → Result Float Refusal → Example
  lookup_is : List Float → Float → Float → Result GainEfficiency Refusal → Example
  field_is : ℤ → ℕ → List ℕ → Example

-- its equation
unfoldable pub Is : Example → Type 0
Is (gain_is call height answer) = gain_of call height ≡ answer
Is (cone_is freq elev answer) = invcon_of freq elev ≡ answer
Is (lookup_is t fmc delta answer) = gain_lookup_of t fmc delta ≡ answer
Is (field_is v w bytes) = integer_field v w ≡ bytes

unfoldable pub EachIs : List Example → Type 0
EachIs [] = Unit {0}
EachIs (e ∷ es) = Is e × EachIs es

-- ---- the examples
-- minus a / b
abbrev pub minus : ℕ → ℕ → Float
minus a b = neg (num a b)

-- a call at 7 MHz: type, conductivity, first extra and elevation; what is left is 0
abbrev pub call_of : ℕ → Float → Float → Float → GainCall
call_of kop asig extra delta =
    let o = num 0 1 in
    record {
      kop = pos kop;
      toaz = o;
      params = record { asig = asig; aeps = num 4 1; and = o; anl = o; anh = o; aex = extra ∷ o ∷ o ∷ o ∷ [] };
      delta = delta;
      fmc = num 7 1;
      model = Compatible;
    }

abbrev pub ground_call : ℕ → GainCall
ground_call kop = call_of kop (num 1 100) (num 0 1) (num 0 1)

-- at elevation 1.0; the curtain's first extra counts its elements
abbrev pub curtain_call : Float → GainCall
curtain_call elements = call_of 6 (num 1 100) elements (num 1 1)

-- The marks name the gain. Efficiency and height left are by sections 5 and 6: the type's, and the carried height on the ground, 1 above it
abbrev pub accepted : Float → Float → Float → Result Answer Refusal
accepted gain efficiency height = Ok (record { gain = gain; efficiency = efficiency; height = height })

abbrev pub found : Float → Float → Result GainEfficiency Refusal
found gain efficiency = Ok (record { gain = gain; efficiency = efficiency })

-- rows 1 and 2 at -30 and -20 on the ground, other cells 0
unfoldable pub table : List Float
table = minus 30 1 ∷ replicate 90 (num 0 1) ++ minus 20 1 ∷ replicate 2668 (num 0 1)

abbrev pub examples : List Example
examples =
    -- M fresh type 5 at 0: -30 plus f32 -25.64620146
    gain_is (ground_call 5) (num 0 1) (accepted (minus 30 1 ⊞ minus 2564620146 100000000) (minus 2564620146 100000000) (num 0 1))
    -- M height 0.35, type 2 at 0: -30
    ∷ gain_is (ground_call 2) (num 35 100) (accepted (minus 30 1) (num 0 1) (num 35 100))
    -- M type 1 at 0: -30 plus -1.7
    ∷ gain_is (ground_call 1) (num 0 1) (accepted (minus 30 1 ⊞ minus 17 10) (minus 17 10) (num 0 1))
    -- M `Compatible` curtain, elevation 1.0: 4 elements -26, -2 elements -30
    ∷ gain_is (curtain_call (num 4 1)) (num 0 1) (accepted (minus 26 1) (num 0 1) (num 1 1))
    ∷ gain_is (curtain_call (minus 2 1)) (num 0 1) (accepted (minus 30 1) (num 0 1) (num 1 1))
    -- M cone (MHz, degrees): (2, 0) -20; (3, 5) -8; (4, 5) -7; (30, 90) -40
    ∷ cone_is (num 2 1) (num 0 1) (Ok (minus 20 1))
    ∷ cone_is (num 3 1) (num 5 1) (Ok (minus 8 1))
    ∷ cone_is (num 4 1) (num 5 1) (Ok (minus 7 1))
    ∷ cone_is (num 30 1) (num 90 1) (Ok (minus 40 1))
    -- M rows 1 and 2 at -30 and -20 on the ground, other cells 0, lookup 0.5 MHz at elevation 0: -25
    ∷ lookup_is table (num 5 10) (num 0 1) (found (minus 25 1) (num 0 1))
    -- M conductivity 0 at elevation 0: 3
    ∷ gain_is (call_of 1 (num 0 1) (num 0 1) (num 0 1)) (num 0 1) (Err R.Conductivity)
    -- M `i(12345, 4)`: `****`
    ∷ field_is (pos 12345) 4 (42 ∷ 42 ∷ 42 ∷ 42 ∷ [])
    ∷ []

-- ---- the test, bit for bit
unfoldable pub same : Float → Float → Bool
same x y = fits binary32 x && fits binary32 y && eqb (to_bits binary32 x) (to_bits binary32 y)

unfoldable pub same_gain : Result Answer Refusal → Result Answer Refusal → Bool
same_gain (Ok a) (Ok b) = same a.gain b.gain && same a.efficiency b.efficiency && same a.height b.height
same_gain (Ok a) (Err n) = false
same_gain (Err m) (Ok b) = false
same_gain (Err m) (Err n) = eqb (number_of m) (number_of n)

unfoldable pub same_cone : Result Float Refusal → Result Float Refusal → Bool
same_cone (Ok a) (Ok b) = same a b
same_cone (Ok a) (Err n) = false
same_cone (Err m) (Ok b) = false
same_cone (Err m) (Err n) = eqb (number_of m) (number_of n)

unfoldable pub same_lookup : Result GainEfficiency Refusal → Result GainEfficiency Refusal → Bool
same_lookup (Ok a) (Ok b) = same a.gain b.gain && same a.efficiency b.efficiency
same_lookup (Ok a) (Err n) = false
same_lookup (Err m) (Ok b) = false
same_lookup (Err m) (Err n) = eqb (number_of m) (number_of n)

unfoldable pub same_bytes : List ℕ → List ℕ → Bool
same_bytes [] [] = true
same_bytes [] (y ∷ ys) = false
same_bytes (x ∷ xs) [] = false
same_bytes (x ∷ xs) (y ∷ ys) = eqb x y && same_bytes xs ys

unfoldable pub holds : Example → Bool
holds (gain_is call height answer) = same_gain (gain_of call height) answer
holds (cone_is freq elev answer) = same_cone (invcon_of freq elev) answer
holds (lookup_is t fmc delta answer) = same_lookup (gain_lookup_of t fmc delta) answer
holds (field_is v w bytes) = same_bytes (integer_field v w) bytes

unfoldable pub all : List Example → Bool
all [] = true
all (e ∷ es) = holds e && all es

unfoldable pub all_hold : Bool
all_hold = all examples
