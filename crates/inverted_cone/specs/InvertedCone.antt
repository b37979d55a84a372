-- Document 01 section 9, `invcon`: the inverted cone. Definitions only.
use Rattle.std.specs.Prelude.{ℕ, suc, ◌-◌, cond, List, [], ◌∷◌, eqb, get_or, drop, replicate, Float, Result}
use Rattle.std.specs.Float.{nan}
use Rattle.std.specs.Float.Ieee.{neg, le}
use Rattle.single.specs.Single.{◌⊞◌, ◌⊟◌, ◌⊠◌, ◌⊘◌, num, whole}
use Rattle.limits.specs.Refusals.{Test, first_refusal}
use Rattle.limits.specs.Tests.{any_outside, numbers_test}
use Rattle.refusals.specs.declared.Refusal.{Refusal}
use Rattle.refusals.specs.Refusals.{answered, outcome_number, outcome_values}

-- tenths of either sign
abbrev pub plus : ℕ → Float
plus n = num n 10

abbrev pub minus : ℕ → Float
minus n = neg (num n 10)

-- MHz
unfoldable pub cone_freqs : List Float
cone_freqs = whole 2 ∷ whole 4 ∷ whole 5 ∷ whole 6 ∷ whole 7 ∷ whole 8 ∷ whole 9 ∷ whole 10 ∷ whole 11 ∷ whole 12 ∷ whole 13 ∷ whole 14 ∷ whole 15 ∷ whole 16 ∷ whole 17 ∷ whole 18 ∷ whole 20 ∷ whole 22 ∷ whole 24 ∷ whole 26 ∷ whole 28 ∷ whole 30 ∷ []

-- degrees
unfoldable pub cone_elevs : List Float
cone_elevs = whole 0 ∷ whole 5 ∷ whole 10 ∷ whole 15 ∷ whole 20 ∷ whole 25 ∷ whole 30 ∷ whole 35 ∷ whole 40 ∷ whole 45 ∷ whole 50 ∷ whole 55 ∷ whole 90 ∷ []

-- dB: a row for each elevation, across the frequencies
unfoldable pub cone : List (List Float)
cone =
    replicate 22 (minus 200) ∷
    (minus 90 ∷ minus 70 ∷ minus 82 ∷ minus 86 ∷ minus 88 ∷ minus 83 ∷ minus 77 ∷ minus 77 ∷ minus 83 ∷ minus 83 ∷ minus 80 ∷ minus 80 ∷ minus 88 ∷ minus 100 ∷ minus 100 ∷ minus 100 ∷ minus 100 ∷ minus 100 ∷ minus 100 ∷ minus 100 ∷ minus 100 ∷ minus 100 ∷ []) ∷
    (minus 50 ∷ minus 30 ∷ minus 35 ∷ minus 38 ∷ minus 39 ∷ minus 40 ∷ minus 41 ∷ minus 39 ∷ minus 47 ∷ minus 51 ∷ minus 49 ∷ minus 47 ∷ minus 64 ∷ minus 70 ∷ minus 65 ∷ minus 60 ∷ minus 64 ∷ minus 76 ∷ minus 89 ∷ minus 100 ∷ minus 100 ∷ minus 100 ∷ []) ∷
    (minus 21 ∷ minus 1 ∷ minus 7 ∷ minus 10 ∷ minus 13 ∷ minus 14 ∷ minus 15 ∷ minus 17 ∷ minus 20 ∷ minus 26 ∷ minus 26 ∷ minus 29 ∷ minus 47 ∷ minus 47 ∷ minus 40 ∷ minus 39 ∷ minus 47 ∷ minus 56 ∷ minus 67 ∷ minus 80 ∷ minus 100 ∷ minus 100 ∷ []) ∷
    (minus 7 ∷ plus 13 ∷ plus 8 ∷ plus 4 ∷ plus 1 ∷ minus 7 ∷ minus 22 ∷ minus 23 ∷ minus 17 ∷ minus 24 ∷ minus 51 ∷ minus 67 ∷ minus 50 ∷ minus 38 ∷ minus 35 ∷ minus 37 ∷ minus 43 ∷ minus 51 ∷ minus 57 ∷ minus 67 ∷ minus 83 ∷ minus 100 ∷ []) ∷
    (minus 5 ∷ plus 15 ∷ plus 14 ∷ plus 12 ∷ plus 3 ∷ minus 10 ∷ minus 42 ∷ minus 47 ∷ minus 31 ∷ minus 29 ∷ minus 66 ∷ minus 69 ∷ minus 40 ∷ minus 32 ∷ minus 37 ∷ minus 42 ∷ minus 48 ∷ minus 53 ∷ minus 56 ∷ minus 61 ∷ minus 76 ∷ minus 90 ∷ []) ∷
    (minus 3 ∷ plus 17 ∷ plus 16 ∷ plus 15 ∷ plus 12 ∷ minus 16 ∷ minus 55 ∷ minus 72 ∷ minus 60 ∷ minus 50 ∷ minus 80 ∷ minus 85 ∷ minus 35 ∷ minus 27 ∷ minus 40 ∷ minus 47 ∷ minus 53 ∷ minus 57 ∷ minus 60 ∷ minus 69 ∷ minus 81 ∷ minus 100 ∷ []) ∷
    (minus 4 ∷ plus 15 ∷ plus 15 ∷ plus 15 ∷ plus 15 ∷ minus 22 ∷ minus 70 ∷ minus 115 ∷ minus 75 ∷ minus 58 ∷ minus 104 ∷ minus 120 ∷ minus 25 ∷ minus 20 ∷ minus 43 ∷ minus 53 ∷ minus 63 ∷ minus 69 ∷ minus 74 ∷ minus 80 ∷ minus 90 ∷ minus 100 ∷ []) ∷
    (minus 5 ∷ plus 15 ∷ plus 15 ∷ plus 15 ∷ plus 13 ∷ minus 30 ∷ minus 84 ∷ minus 106 ∷ minus 67 ∷ minus 52 ∷ minus 98 ∷ minus 140 ∷ minus 24 ∷ minus 24 ∷ minus 50 ∷ minus 62 ∷ minus 70 ∷ minus 78 ∷ minus 83 ∷ minus 100 ∷ minus 100 ∷ minus 100 ∷ []) ∷
    (minus 8 ∷ plus 12 ∷ plus 13 ∷ plus 12 ∷ plus 3 ∷ minus 41 ∷ minus 105 ∷ minus 113 ∷ minus 59 ∷ minus 50 ∷ minus 85 ∷ minus 170 ∷ minus 75 ∷ minus 60 ∷ minus 64 ∷ minus 69 ∷ minus 76 ∷ minus 83 ∷ minus 100 ∷ minus 100 ∷ minus 100 ∷ minus 100 ∷ []) ∷
    (minus 15 ∷ plus 5 ∷ plus 4 ∷ plus 1 ∷ minus 10 ∷ minus 54 ∷ minus 121 ∷ minus 103 ∷ minus 61 ∷ minus 52 ∷ minus 85 ∷ minus 170 ∷ minus 150 ∷ minus 103 ∷ minus 85 ∷ minus 80 ∷ minus 81 ∷ minus 88 ∷ minus 100 ∷ minus 100 ∷ minus 100 ∷ minus 100 ∷ []) ∷
    (minus 22 ∷ minus 2 ∷ minus 5 ∷ minus 10 ∷ minus 22 ∷ minus 73 ∷ minus 120 ∷ minus 85 ∷ minus 56 ∷ minus 52 ∷ minus 75 ∷ minus 155 ∷ minus 200 ∷ minus 150 ∷ minus 105 ∷ minus 89 ∷ minus 89 ∷ minus 100 ∷ minus 100 ∷ minus 100 ∷ minus 100 ∷ minus 100 ∷ []) ∷
    replicate 22 (minus 400) ∷
    []

-- of the bounds from place i on the first that is not below x; the last where all are
unfoldable pub upper_from : Float → ℕ → List Float → ℕ
upper_from x i [] = i - 1
upper_from x i (b ∷ bs) = cond (le x b) i (upper_from x (suc i) bs)

-- searched from the second bound on
unfoldable pub upper_of : Float → List Float → ℕ
upper_of x bounds = upper_from x 1 (drop 1 bounds)

unfoldable pub interp_of : Float → Float → Float → Float
interp_of a b c = a ⊠ (num 1 1 ⊟ c) ⊞ b ⊠ c

unfoldable pub weight_of : Float → Float → Float → Float
weight_of a b c = (a ⊟ b) ⊘ (c ⊟ b)

unfoldable pub cone_at : ℕ → ℕ → Float
cone_at ian ifr = get_or (get_or cone ian []) ifr nan

-- before an axis by its first interval, beyond it by its last
unfoldable pub cone_value : Float → Float → Float
cone_value freq elev =
    let ian = upper_of elev cone_elevs in
    let ifr = upper_of freq cone_freqs in
    let fwt = weight_of freq (get_or cone_freqs ifr nan) (get_or cone_freqs (ifr - 1) nan) in
    let awt = weight_of elev (get_or cone_elevs ian nan) (get_or cone_elevs (ian - 1) nan) in
    let g1 = interp_of (cone_at ian ifr) (cone_at (ian - 1) ifr) awt in
    let g2 = interp_of (cone_at ian (ifr - 1)) (cone_at (ian - 1) (ifr - 1)) awt in
    interp_of g1 g2 fwt

-- document 01's number and value for each case of an answer
abbrev pub cone_gain_number : Result Float Refusal → ℕ
cone_gain_number = outcome_number

abbrev pub cone_gain_value : Result Float Refusal → Float
cone_gain_value = outcome_values (num 0 1)

abbrev pub cone_tests : Float → Float → List Test
cone_tests freq elev = numbers_test (any_outside (freq ∷ elev ∷ [])) ∷ []

unfoldable pub invcon_number : Float → Float → ℕ
invcon_number freq elev = first_refusal (cone_tests freq elev)

-- the whole answer
unfoldable pub invcon_of : Float → Float → Result Float Refusal
invcon_of freq elev = answered (invcon_number freq elev) (cone_value freq elev)

unfoldable pub invcon_value : Float → Float → Float
invcon_value freq elev = cond (eqb (invcon_number freq elev) 0) (cone_value freq elev) (num 0 1)
