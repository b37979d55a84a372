-- Document 01 section 10, a line of `gainlist`: "119 bytes a line: type, first, last MHz in 3 columns each;
-- then ten fields of 11: off-azimuth and slots 3, 4, 6 to 12, the rest 0". Definitions only.
use Rattle.std.specs.Prelude.{ℕ, zero, suc, ◌+◌, ◌*◌, Bool, true, cond, ◌&&◌, List, [], ◌∷◌, eqb, ℤ, length, take, drop, Float, Option, Some, None}
use Rattle.single.specs.Single.{num}
use Rattle.parameters.specs.declared.model.Model.TheVariants.{Compatible}
use Rattle.field_reading.specs.Integer.{integer_of, integer_number, integer_value}
use Rattle.field_reading.specs.Decimal.{decimal_of, decimal_number, decimal_value}
use Rattle.cards.specs.declared.fields.Fields.{Fields}

-- n columns from column a on, counted from 0
abbrev pub columns : ℕ → ℕ → List ℕ → List ℕ
columns a n l = take n (drop a l)

-- 3 columns from column a on
abbrev pub integer_at : List ℕ → ℕ → Option ℤ
integer_at l a = integer_of (columns a 3 l)

-- field k of the ten fields of 11, counted from 0
abbrev pub decimal_at : List ℕ → ℕ → Option Float
decimal_at l k = decimal_of (columns (9 + 11 * k) 11 l)

-- type, first and last MHz are numbers
unfoldable pub integers_read : List ℕ → Bool
integers_read l =
    eqb (integer_number (integer_at l 0)) 0 && (eqb (integer_number (integer_at l 3)) 0 && eqb (integer_number (integer_at l 6)) 0)

-- the first n of the ten fields are numbers
unfoldable pub decimals_read : List ℕ → ℕ → Bool
decimals_read l zero = true
decimals_read l (suc n) = decimals_read l n && eqb (decimal_number (decimal_at l n)) 0

-- A card's fields, from its integers and the values of the ten fields: the off-azimuth's and those of slots 3, 4, 6 to 12. The 20 slots stand in their order
unfoldable pub fields_of : ℤ → ℤ → ℤ → (ℕ → Float) → Fields
fields_of kop first last value =
    let slot3 = value 1 in
    let slot4 = value 2 in
    let slot6 = value 3 in
    let slot7 = value 4 in
    let slot8 = value 5 in
    let slot9 = value 6 in
    let slot10 = value 7 in
    let slot11 = value 8 in
    let slot12 = value 9 in
    let o = num 0 1 in
    record {
      kop = kop;
      first = first;
      last = last;
      toaz = value 0;
      slots = o ∷ o ∷ slot3 ∷ slot4 ∷ o ∷ slot6 ∷ slot7 ∷ slot8 ∷ slot9 ∷ slot10 ∷ slot11 ∷ slot12 ∷ o ∷ o ∷ o ∷ o ∷ o ∷ o ∷ o ∷ o ∷ [];
      model = Compatible;
    }

-- 119 bytes, and thirteen numbers
unfoldable pub is_well_formed : List ℕ → Bool
is_well_formed l = eqb (length l) 119 && (integers_read l && decimals_read l 10)

-- the fields that a line's thirteen numbers are
unfoldable pub fields_in : List ℕ → Fields
fields_in l = fields_of (integer_value (integer_at l 0)) (integer_value (integer_at l 3)) (integer_value (integer_at l 6)) (λ k. decimal_value (decimal_at l k))

-- the line's bytes are without its line feed. A malformed one has no fields
unfoldable pub line_of : List ℕ → Option Fields
line_of l = cond (is_well_formed l) (Some (fields_in l)) None
