-- Document 02, C-12: each entry of the columns' sines has the bits that the formula gives. Assumes nothing.
use mathlib.Core.Path.{◌≡◌, refl, sym, ◌∙◌}
use Prim.Native.Nat.{ℕ, ◌<◌}
use lib.Dec.{T}
use lib.ListN.{get_or, length, get_or-map}
use lib.Ieee.{nan, binary32, fits, of_bits, to_bits, of_int, to_signed, mul, add, sub, div, neg, round, lt, le, eq}
use Rattle.single.specs.Every.{every}
use Rattle.single.proofs.Every.{every_at}
use Rattle.elementary.specs.Basic.{cut_toward}
use Rattle.elementary.specs.Trigonometric.{sine, in_range, turns, turns_argument, rest, reduced, sine_part, cosine_part, sine_at}
use Rattle.elementary.specs.Constants.{◌is◌, agrees, constant_is}
use Rattle.angles.specs.Angles.{radians_of}
use Rattle.table.specs.Table.{column_count}
use Rattle.column_sines.specs.ColumnSines.{sine_bits, column_sines, sine_of_degrees, entry_agrees, sines_agree}

-- the one computed test
pub sines_agree_lem : T sines_agree
unfolding sines_agree every entry_agrees agrees sine_bits sine in_range turns turns_argument rest reduced sine_part cosine_part sine_at
    cut_toward radians_of fits to_bits of_int to_signed mul add sub div neg round lt le eq
sines_agree_lem = tt

pub sine_count_lem : length column_sines ≡ column_count
unfolding column_sines sine_bits
sine_count_lem = refl

-- the rule at each entry
pub sine_entry : (d : ℕ) → d < column_count → get_or column_sines d nan ≡ sine_of_degrees d
unfolding column_sines sines_agree entry_agrees of_bits
sine_entry d h =
    let tested = every_at entry_agrees column_count sines_agree_lem d h in
    get_or-map (of_bits binary32) sine_bits d 0x7fc00000 ∙ sym (constant_is (sine_of_degrees d is get_or sine_bits d 0x7fc00000) tested)
