-- The fields of a line of the oracle's lists (oracle/README.md). Definitions only.
use Rattle.std.specs.Prelude.{ℕ, zero, suc, ◌+◌, ◌-◌, ◌*◌, ◌%◌, ◌^◌, Bool, cond, ◌&&◌, List, leb, ltb, eqb, ℤ, pos, negsuc, get_or, length, Float}
use Rattle.std.specs.Float.{binary32}
use Rattle.std.specs.Float.Ieee.{to_bits}

-- a hexadecimal digit in ASCII, lower case; any other byte counts as 0
unfoldable pub digit_of : ℕ → ℕ
digit_of b = cond (leb 48 b && leb b 57) (b - 48) (cond (leb 97 b && leb b 102) (b - 87) 0)

-- the number that a field's first k digits stand for, modulo 2 ^ 32
unfoldable pub hex_to : List ℕ → ℕ → ℕ
hex_to field zero = 0
hex_to field (suc k) = (hex_to field k * 16 + digit_of (get_or field k 0)) % 2 ^ 32

unfoldable pub hex_of : List ℕ → ℕ
hex_of field = hex_to field (length field)

-- the signed number that 32 bits stand for in two's complement
unfoldable pub signed_of : ℕ → ℤ
signed_of bits = cond (ltb bits (2 ^ 31)) (pos bits) (negsuc (2 ^ 32 - suc bits))

-- the same number: the zeros differ, and any NaN is the same as any NaN
unfoldable pub same_bits : Float → Float → Bool
same_bits x y = eqb (to_bits binary32 x) (to_bits binary32 y)
