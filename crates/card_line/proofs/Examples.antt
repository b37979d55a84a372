-- Worked examples, computed: the first card of document 01's listing, and lines where another rule shows.
use mathlib.Core.Path.{◌≡◌, refl}
use mathlib.Core.List.{List, [], ◌∷◌, ◌++◌}
use Prim.Native.Nat.{ℕ, ◌+◌}
use lib.IntN.{ℤ, pos, negsuc}
use lib.ListN.{replicate}
use Rattle.std.proofs.Common.{Some, None}
use lib.Ieee.{round, neg}
use Rattle.single.specs.Single.{num}
use Rattle.parameters.specs.declared.model.Model.TheVariants.{Compatible}
use Rattle.field_reading.specs.Digits.{read_on, digits_of, unspaced, signed_of}
use Rattle.field_reading.specs.Integer.{integer, integer_of}
use Rattle.field_reading.specs.Decimal.{ten_thousandths, pointed, decimal_of}
use Rattle.cards.specs.declared.fields.Fields.{Fields}
use Rattle.card_line.specs.Line.{integers_read, decimals_read, fields_of, is_well_formed, fields_in, line_of}

-- `     0.0000` with another digit for the first 0
abbrev ones : ℕ → List ℕ
ones d = replicate 5 32 ++ ((48 + d) ∷ 46 ∷ 48 ∷ 48 ∷ 48 ∷ 48 ∷ [])

-- a type and an off-azimuth, with 2 to 3 MHz, slots 3 `     4.0000`, 4 `     0.0100` and 6 `    -0.5000`, and zeros
abbrev line_with : List ℕ → List ℕ → List ℕ
line_with kop toaz =
    kop ++ (32 ∷ 32 ∷ 50 ∷ 32 ∷ 32 ∷ 51 ∷ []) ++ toaz ++ ones 4 ++ (replicate 5 32 ++ (48 ∷ 46 ∷ 48 ∷ 49 ∷ 48 ∷ 48 ∷ []))
    ++ (replicate 4 32 ++ (45 ∷ 48 ∷ 46 ∷ 53 ∷ 48 ∷ 48 ∷ 48 ∷ [])) ++ ones 0 ++ ones 0 ++ ones 0 ++ ones 0 ++ ones 0 ++ ones 0

-- its fields
abbrev card_of : ℤ → Fields
card_of kop =
    let o = num 0 1 in
    record {
      kop = kop;
      first = pos 2;
      last = pos 3;
      toaz = o;
      slots = o ∷ o ∷ num 4 1 ∷ num 1 100 ∷ o ∷ neg (num 1 2) ∷ o ∷ o ∷ o ∷ o ∷ o ∷ o ∷ o ∷ o ∷ o ∷ o ∷ o ∷ o ∷ o ∷ o ∷ [];
      model = Compatible;
    }

-- type `  2`
pub first_card : line_of (line_with (32 ∷ 32 ∷ 50 ∷ []) (ones 0)) ≡ Some (card_of (pos 2))
unfolding line_of is_well_formed integers_read decimals_read fields_in fields_of
    integer_of integer decimal_of pointed ten_thousandths signed_of unspaced digits_of read_on round neg
first_card = refl

-- type `-99`, off-azimuth `    -0.0000`: a line is well formed whatever the card's verdict, and minus zero is zero
pub minus_signs : line_of (line_with (45 ∷ 57 ∷ 57 ∷ []) (replicate 4 32 ++ (45 ∷ 48 ∷ 46 ∷ 48 ∷ 48 ∷ 48 ∷ 48 ∷ []))) ≡ Some (card_of (negsuc 98))
unfolding line_of is_well_formed integers_read decimals_read fields_in fields_of
    integer_of integer decimal_of pointed ten_thousandths signed_of unspaced digits_of read_on round neg
minus_signs = refl

-- `  1  3 30`, then `     0.0000` to `     9.0000`
pub in_order : line_of ((32 ∷ 32 ∷ 49 ∷ 32 ∷ 32 ∷ 51 ∷ 32 ∷ 51 ∷ 48 ∷ [])
    ++ ones 0 ++ ones 1 ++ ones 2 ++ ones 3 ++ ones 4 ++ ones 5 ++ ones 6 ++ ones 7 ++ ones 8 ++ ones 9)
    ≡ Some (
    let o = num 0 1 in
    record {
      kop = pos 1;
      first = pos 3;
      last = pos 30;
      toaz = o;
      slots = o ∷ o ∷ num 1 1 ∷ num 2 1 ∷ o ∷ num 3 1 ∷ num 4 1 ∷ num 5 1 ∷ num 6 1 ∷ num 7 1 ∷ num 8 1 ∷ num 9 1 ∷ o ∷ o ∷ o ∷ o ∷ o ∷ o ∷ o ∷ o ∷ [];
      model = Compatible;
    })
unfolding line_of is_well_formed integers_read decimals_read fields_in fields_of
    integer_of integer decimal_of pointed ten_thousandths signed_of unspaced digits_of read_on round neg
in_order = refl

-- a carriage return before the line feed
pub carriage_return : line_of (line_with (32 ∷ 32 ∷ 50 ∷ []) (ones 0) ++ (13 ∷ [])) ≡ None
unfolding line_of is_well_formed
carriage_return = refl

-- a tab before the type
pub tab : line_of (line_with (32 ∷ 9 ∷ 50 ∷ []) (ones 0)) ≡ None
unfolding line_of is_well_formed integers_read decimals_read fields_in fields_of
    integer_of integer decimal_of pointed ten_thousandths signed_of unspaced digits_of read_on round neg
tab = refl

-- five digits before the point: ` 12345.0000`
pub five_digits : line_of (line_with (32 ∷ 32 ∷ 50 ∷ []) (32 ∷ 49 ∷ 50 ∷ 51 ∷ 52 ∷ 53 ∷ 46 ∷ 48 ∷ 48 ∷ 48 ∷ 48 ∷ [])) ≡ None
unfolding line_of is_well_formed integers_read decimals_read fields_in fields_of
    integer_of integer decimal_of pointed ten_thousandths signed_of unspaced digits_of read_on round neg
five_digits = refl
