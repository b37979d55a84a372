-- Document 01 section 10, hundredths: "nearest to the f32's exact value, halves away from zero". Definitions only.
use Rattle.std.specs.Prelude.{ℕ, ◌+◌, ◌*◌, ◌/◌, ◌^◌, cond, List, [], ◌∷◌, replicate, ℤ, nat_lt, Float}
use Rattle.std.specs.Float.{nan, inf, fin}
use Rattle.std.specs.Float.Ieee.{up, down}
use Rattle.single.specs.Single.{signed}
use Rattle.output.specs.declared.rounding.Hundredths.{Hundredths}
use Rattle.output.specs.declared.rounding.Hundredths.TheVariants.{NotANumber, Over, Whole}
use Rattle.output.specs.Field.{justified, integer_field}

-- a / b to the nearest whole number, halves up: the whole part of a / b + 1/2
abbrev pub half_up : ℕ → ℕ → ℕ
half_up a b = (2 * a + b) / (2 * b)

-- 100 times the exact value m * 2 ^ e, which is m * up e / down e, to the nearest whole number
abbrev pub hundredfold : ℕ → ℤ → ℕ
hundredfold m e = half_up (100 * (m * up e)) (down e)

-- the sign is put on after the rounding, so that halves go away from zero.
-- Over: an infinity, or from 2 ^ 56 on in magnitude, where the hundredths have 19 digits or more and may not fit an i64
unfoldable pub hundredths_of : Float → Hundredths
hundredths_of nan = NotANumber
hundredths_of (inf s) = Over
hundredths_of (fin s m e) = cond (nat_lt (m * up e) (2 ^ 56 * down e)) (Whole (signed s (hundredfold m e))) Over

-- the magnitude alone, for the contract of a private function
unfoldable pub size_of : Float → ℕ
size_of nan = 0
size_of (inf s) = 0
size_of (fin s m e) = hundredfold m e

-- ---- in a field
-- the letters N, a, N
abbrev pub nan_text : List ℕ
nan_text = 78 ∷ 97 ∷ 78 ∷ []

-- "infinities print stars, a NaN its three letters right-justified"
unfoldable pub printed : Hundredths → ℕ → List ℕ
printed NotANumber w = justified nan_text w
printed Over w = replicate w 42
printed (Whole n) w = integer_field n w

-- the hundredths of x in w columns
unfoldable pub hundredths_field : Float → ℕ → List ℕ
hundredths_field x w = printed (hundredths_of x) w
