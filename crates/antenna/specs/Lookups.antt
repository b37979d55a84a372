-- Document 01 section 9: `gain_lookup`, and a card's lookup as document 02, C-11, has it. Definitions only.
use Rattle.std.specs.Prelude.{ℕ, cond, ◌&&◌, List, eqb, ℤ, nat_abs, Float, Result}
use Rattle.single.specs.Single.{num}
use Rattle.lookup_refusals.specs.LookupRefusals.{lookup_refusal, card_refusal}
use Rattle.antenna.specs.Places.{place_of}
use Rattle.antenna.specs.Rows.{row_of, blended_at}
use Rattle.antenna.specs.FilledRows.{from_filled_rows}
use Rattle.refusals.specs.declared.Refusal.{Refusal}
use Rattle.refusals.specs.Refusals.{answered, outcome_number, outcome_values}
use Rattle.antenna.specs.declared.rows.GainEfficiency.{GainEfficiency}

abbrev pub zeros : GainEfficiency
zeros = record { gain = num 0 1; efficiency = num 0 1 }

-- document 01's number and values for each case of an answer
abbrev pub lookup_number : Result GainEfficiency Refusal → ℕ
lookup_number = outcome_number

abbrev pub lookup_values : Result GainEfficiency Refusal → GainEfficiency
lookup_values = outcome_values zeros

abbrev pub gain_lookup_number : List Float → Float → Float → ℕ
gain_lookup_number t fmc delta = lookup_refusal t fmc delta

unfoldable pub gain_lookup_values : List Float → Float → Float → GainEfficiency
gain_lookup_values t fmc delta = cond (eqb (lookup_refusal t fmc delta) 0) (blended_at (place_of fmc delta) (row_of t)) zeros

-- the whole answer
unfoldable pub gain_lookup_of : List Float → Float → Float → Result GainEfficiency Refusal
gain_lookup_of t fmc delta = answered (lookup_refusal t fmc delta) (blended_at (place_of fmc delta) (row_of t))

abbrev pub card_lookup_number : ℤ → ℤ → ℕ → List Float → Float → Float → ℕ
card_lookup_number first last verdict t fmc delta = card_refusal first last verdict t fmc delta

-- what an accepted card's lookup finds; refusal 4 has seen to it that first and last are from 1 to 30
abbrev pub card_values : ℤ → ℤ → List Float → Float → Float → GainEfficiency
card_values first last t fmc delta = from_filled_rows (nat_abs first) (nat_abs last) t fmc (place_of fmc delta)

-- zeros of a refused card too, whose number is 0
unfoldable pub card_lookup_values : ℤ → ℤ → ℕ → List Float → Float → Float → GainEfficiency
card_lookup_values first last verdict t fmc delta =
    cond (eqb (card_refusal first last verdict t fmc delta) 0 && eqb verdict 0) (card_values first last t fmc delta) zeros

-- the whole answer
unfoldable pub card_lookup_of : ℤ → ℤ → ℕ → List Float → Float → Float → Result GainEfficiency Refusal
card_lookup_of first last verdict t fmc delta =
    answered (card_refusal first last verdict t fmc delta) (cond (eqb verdict 0) (card_values first last t fmc delta) zeros)
