-- Document 01 section 10, a decimal field of a line: "1 to 4 digits, a point and 4 digits, read as the nearest f32, minus zero as zero". Definitions only.
use Rattle.std.specs.Prelude.{ℕ, ◌+◌, ◌-◌, ◌*◌, Bool, false, cond, ◌&&◌, List, ltb, eqb, Float, pos, length, take, drop, get_or, Option, Some, None}
use Rattle.std.specs.Float.{fin, binary32}
use Rattle.std.specs.Float.Ieee.{round}
use Rattle.field_reading.specs.declared.reading.Signed.{Signed}
use Rattle.field_reading.specs.Digits.{digits_of, signed_of}

-- the f32 nearest to n / 10000 with its sign; minus zero is zero
unfoldable pub ten_thousandths : Bool → ℕ → Float
ten_thousandths minus n = round binary32 (minus && ltb 0 n) n 10000

-- the number before the point, the byte in the point's column, the digits after it
unfoldable pub pointed : Option Signed → ℕ → Option ℕ → Option Float
pointed None p f = None
pointed (Some s) p None = None
pointed (Some s) p (Some b) = cond (eqb p 46) (Some (ten_thousandths s.minus (s.magnitude * 10000 + b))) None

-- The last four columns are digits, the point stands before them, and before that spaces, an optional minus and 1 to 4 digits
unfoldable pub decimal_of : List ℕ → Option Float
decimal_of l = pointed (signed_of 4 (take (length l - 5) l)) (get_or l (length l - 5) 0) (digits_of 4 (drop (length l - 4) l))

-- document 01's number of each answer, 8 for what is malformed, and its value, 0 where there is none
abbrev pub decimal_number : Option Float → ℕ
decimal_number (Some x) = 0
decimal_number None = 8

abbrev pub decimal_value : Option Float → Float
decimal_value (Some x) = x
decimal_value None = fin false 0 (pos 0)
