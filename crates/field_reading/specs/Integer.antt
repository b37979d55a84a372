-- Document 01 section 10, an integer field of a line, of any width. Definitions only.
use Rattle.std.specs.Prelude.{ℕ, List, ℤ, pos, Option, Some, None}
use Rattle.single.specs.Single.{signed}
use Rattle.field_reading.specs.declared.reading.Signed.{Signed}
use Rattle.field_reading.specs.Digits.{signed_of}

-- -0 is 0
unfoldable pub integer : Option Signed → Option ℤ
integer None = None
integer (Some s) = Some (signed s.minus s.magnitude)

-- more than 18 digits, which may not fit an i64, are malformed
unfoldable pub integer_of : List ℕ → Option ℤ
integer_of l = integer (signed_of 18 l)

-- document 01's number of each answer, 8 for what is malformed, and its value, 0 where there is none
abbrev pub integer_number : Option ℤ → ℕ
integer_number (Some n) = 0
integer_number None = 8

abbrev pub integer_value : Option ℤ → ℤ
integer_value (Some n) = n
integer_value None = pos 0
