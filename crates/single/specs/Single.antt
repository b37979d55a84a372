-- Single precision, IEEE 754's binary32: the notation of every definition. Definitions only.
use Rattle.std.specs.Prelude.{ℕ, zero, suc, ◌*◌, ◌/◌, ◌^◌, Bool, true, false, cond, ℤ, pos, neg_ℤ, Float}
use Rattle.std.specs.Float.{nan, inf, fin, binary32}
use Rattle.std.specs.Float.Ieee.{round, up, down}
use Rattle.std.specs.Float.Ieee as Ieee

-- sum, difference, product and quotient, each rounded once to the nearest f32, ties to even
abbrev pub ◌⊞◌ : Float → Float → Float
x ⊞ y = Ieee.add binary32 x y

abbrev pub ◌⊟◌ : Float → Float → Float
x ⊟ y = Ieee.sub binary32 x y

abbrev pub ◌⊠◌ : Float → Float → Float
x ⊠ y = Ieee.mul binary32 x y

abbrev pub ◌⊘◌ : Float → Float → Float
x ⊘ y = Ieee.div binary32 x y

infixl 6 ◌⊞◌
infixl 6 ◌⊟◌
infixl 7 ◌⊠◌
infixl 7 ◌⊘◌
-- the f32 nearest to a / b: num 31416 10000 is the literal 3.1416
abbrev pub num : ℕ → ℕ → Float
num a b = round binary32 false a b

-- a whole number as an f32
abbrev pub whole : ℕ → Float
whole n = Ieee.of_int binary32 (pos n)

-- a whole number from its sign and its magnitude
abbrev pub signed : Bool → ℕ → ℤ
signed true n = neg_ℤ (pos n)
signed false n = pos n

-- the sign bit: of a zero too. The one NaN has none
abbrev pub is_negative : Float → Bool
is_negative nan = false
is_negative (inf s) = s
is_negative (fin s m e) = s

-- m * 2 ^ e in units of 2 ^ -149, the least f32: every finite f32 is a whole number of them
abbrev pub units_of : ℕ → ℤ → ℕ
units_of m e = m * up e * 2 ^ 149 / down e

-- The root's and the logarithm's cases: NaN for NaN and below zero, z at either zero, infinity at infinity, else f of y's units.
unfoldable pub on_positive : Float → (ℕ → Float) → Float → Float
on_positive z f nan = nan
on_positive z f (inf s) = cond s nan (inf false)
on_positive z f (fin s zero e) = z
on_positive z f (fin true (suc m) e) = nan
on_positive z f (fin false (suc m) e) = f (units_of (suc m) e)
