-- Worked examples, computed: readings where another rule shows.
use mathlib.Core.Path.{◌≡◌, refl}
use mathlib.Core.List.{[], ◌∷◌}
use lib.Ieee.{binary32, of_bits, round}
use Rattle.std.proofs.Common.{Some}
use Rattle.field_reading.specs.Digits.{read_on, digits_of, unspaced, signed_of}
use Rattle.field_reading.specs.Decimal.{ten_thousandths, pointed, decimal_of}

-- `  1000.0001` is above 1000
pub above_1000 : decimal_of (32 ∷ 32 ∷ 49 ∷ 48 ∷ 48 ∷ 48 ∷ 46 ∷ 48 ∷ 48 ∷ 48 ∷ 49 ∷ []) ≡ Some (of_bits binary32 0x447a0002)
unfolding decimal_of pointed ten_thousandths signed_of unspaced digits_of read_on round of_bits
above_1000 = refl

-- `    -0.0000` is zero, not minus zero
pub minus_zero : decimal_of (32 ∷ 32 ∷ 32 ∷ 32 ∷ 45 ∷ 48 ∷ 46 ∷ 48 ∷ 48 ∷ 48 ∷ 48 ∷ []) ≡ Some (of_bits binary32 0)
unfolding decimal_of pointed ten_thousandths signed_of unspaced digits_of read_on round of_bits
minus_zero = refl
