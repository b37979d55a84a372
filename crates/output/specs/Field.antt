-- Document 01 section 10, the integer field `i`: "the width of `i` is the length of the slice, all of
-- which is written, with stars when the number is too long". Definitions only.
use Rattle.std.specs.Prelude.{ℕ, zero, suc, ◌+◌, ◌-◌, ◌/◌, ◌%◌, Bool, true, false, cond, List, [], ◌∷◌, ◌++◌, length, replicate, ℤ, pos, negsuc, nat_le, nat_lt}

-- The digits of n, then the text t. The flag says whether n is below 10; k is no less than n, so that it never runs out before the digits do
unfoldable pub spelled : ℕ → Bool → ℕ → List ℕ → List ℕ
spelled zero b n t = (48 + n) ∷ t
spelled (suc k) true n t = (48 + n) ∷ t
spelled (suc k) false n t = spelled k (nat_lt (n / 10) 10) (n / 10) ((48 + n % 10) ∷ t)

-- n in decimal with no leading zero; 0 is `0`
unfoldable pub decimal : ℕ → List ℕ
decimal n = spelled n (nat_lt n 10) n []

-- a minus stands directly before the digits
unfoldable pub text : ℤ → List ℕ
text (pos n) = decimal n
text (negsuc n) = 45 ∷ decimal (suc n)

-- the text t in w columns: after spaces, or stars where it is too long
unfoldable pub justified : List ℕ → ℕ → List ℕ
justified t w = cond (nat_le (length t) w) (replicate (w - length t) 32 ++ t) (replicate w 42)

-- `i` of v in w columns
unfoldable pub integer_field : ℤ → ℕ → List ℕ
integer_field v w = justified (text v) w
