-- Document 01, "From the input" and "From the state": the tests that a gain call and a card have in common. Definitions only.
use Rattle.std.specs.Prelude.{ℕ, Bool, true, false, not, ◌&&◌, ◌||◌, List, [], ◌∷◌, ℤ, pos, Float}
use Rattle.std.specs.Int.Signed.{le_z}
use Rattle.std.specs.Float.Ieee.{lt, le}
use Rattle.std.specs.Float.Ieee.Scale.{finite}
use Rattle.single.specs.Single.{num}
use Rattle.elementary.specs.Basic.{absolute}
use Rattle.parameters.specs.Params.{is_type}
use Rattle.limits.specs.Refusals.{Test, refuse, first_refusal}

-- types 1 to 10
unfoldable pub is_ioncap_type : ℤ → Bool
is_ioncap_type kop = le_z (pos 1) kop && le_z kop (pos 10)

abbrev pub most : Float
most = num 1000 1

-- over 1,000 in magnitude, infinite or not a number
unfoldable pub outside : Float → Bool
outside x = not (le (absolute x) most)

unfoldable pub any_outside : List Float → Bool
any_outside [] = false
any_outside (x ∷ xs) = outside x || any_outside xs

abbrev pub type_test : ℤ → Test
type_test kop = refuse 1 (not (is_ioncap_type kop))

-- of all numbers handed in, used by the type or not
abbrev pub numbers_test : Bool → Test
numbers_test any_is_outside = refuse 2 any_is_outside

abbrev pub conductivity_test : Float → Test
conductivity_test asig = refuse 3 (not (lt (num 0 1) asig))

-- a call's MHz, or a card's first and last
abbrev pub mhz_test : Bool → Test
mhz_test is_outside = refuse 4 is_outside

-- type 6 with an angle slot above 64
unfoldable pub too_many_bays : ℤ → Float → Bool
too_many_bays kop bays = is_type kop 6 && lt (num 64 1) bays

abbrev pub bays_test : ℤ → Float → Test
bays_test kop bays = refuse 5 (too_many_bays kop bays)

abbrev pub height_test : Float → Test
height_test h = refuse 9 (not (finite h))

-- a call with a slice of the wrong length is refused before its numbers are judged: 9, else 7
unfoldable pub length_refusal : Float → ℕ
unfolding first_refusal
length_refusal height = first_refusal (height_test height ∷ refuse 7 true ∷ [])

-- refusals 1 to 5 in their order
abbrev pub input_tests : ℤ → Bool → Float → Bool → Float → List Test
input_tests kop any_is_outside asig mhz_is_outside bays =
    type_test kop ∷ numbers_test any_is_outside ∷ conductivity_test asig ∷ mhz_test mhz_is_outside ∷ bays_test kop bays ∷ []

unfoldable pub input_refusal : ℤ → Bool → Float → Bool → Float → ℕ
unfolding first_refusal
input_refusal kop any_is_outside asig mhz_is_outside bays =
    first_refusal (input_tests kop any_is_outside asig mhz_is_outside bays)
