-- Document 01 section 10, numbers of a line: "right-justified after spaces: optional minus, digits". Definitions only.
use Rattle.std.specs.Prelude.{ℕ, ◌+◌, ◌-◌, ◌*◌, Bool, true, false, cond, ◌&&◌, List, [], ◌∷◌, leb, eqb, length, drop, get_or, Option, Some, None}
use Rattle.std.specs.List.{prefix_len}
use Rattle.field_reading.specs.declared.reading.Signed.{Signed}

-- how many spaces l begins with
abbrev pub spaces_of : List ℕ → ℕ
spaces_of l = prefix_len (λ b. eqb b 32) l

-- l is digits to its end; n is what the digits before it spell
unfoldable pub read_on : ℕ → List ℕ → Option ℕ
read_on n [] = Some n
read_on n (b ∷ l) = cond (leb 48 b && leb b 57) (read_on (n * 10 + (b - 48)) l) None

-- l is 1 to most digits, of which any may be leading zeros
unfoldable pub digits_of : ℕ → List ℕ → Option ℕ
digits_of most l = cond (leb 1 (length l) && leb (length l) most) (read_on 0 l) None

-- a magnitude, and the sign that stood before it
abbrev pub with_sign : Bool → Option ℕ → Option Signed
with_sign minus None = None
with_sign minus (Some n) = Some (record { minus = minus; magnitude = n })

-- l is an optional minus, then 1 to most digits
unfoldable pub unspaced : ℕ → List ℕ → Option Signed
unspaced most l = cond (eqb (get_or l 0 0) 45) (with_sign true (digits_of most (drop 1 l))) (with_sign false (digits_of most l))

-- l is spaces, an optional minus, 1 to most digits: a sign and a magnitude
unfoldable pub signed_of : ℕ → List ℕ → Option Signed
signed_of most l = unspaced most (drop (spaces_of l) l)
