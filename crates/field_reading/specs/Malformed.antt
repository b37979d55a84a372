-- Document 01 section 10 and refusal 8: which bytes are a number of a line. Definitions only.
use Rattle.std.specs.Prelude.{ℕ, ◌-◌, Bool, true, cond, ◌&&◌, List, [], ◌∷◌, leb, eqb, length, take, drop, get_or}
use Rattle.field_reading.specs.Digits.{spaces_of}

unfoldable pub all_digits : List ℕ → Bool
all_digits [] = true
all_digits (b ∷ l) = (leb 48 b && leb b 57) && all_digits l

-- 1 to most digits
unfoldable pub is_digits : ℕ → List ℕ → Bool
is_digits most l = (leb 1 (length l) && leb (length l) most) && all_digits l

-- an optional minus, then 1 to most digits
unfoldable pub is_unspaced : ℕ → List ℕ → Bool
is_unspaced most l = cond (eqb (get_or l 0 0) 45) (is_digits most (drop 1 l)) (is_digits most l)

-- after spaces
unfoldable pub is_signed : ℕ → List ℕ → Bool
is_signed most l = is_unspaced most (drop (spaces_of l) l)

unfoldable pub is_integer : List ℕ → Bool
is_integer l = is_signed 18 l

-- 1 to 4 digits, a point and 4 digits
unfoldable pub is_decimal : List ℕ → Bool
is_decimal l = is_signed 4 (take (length l - 5) l) && (is_digits 4 (drop (length l - 4) l) && eqb (get_or l (length l - 5) 0) 46)
