-- The marked examples hold: one computed test, and the equation that it says of each. Assumes nothing.
use Prim.Native.Nat.{ℕ}
use mathlib.Core.Path.{◌≡◌, refl, sym, ap, ap₂, ◌∙◌}
use mathlib.Core.Bool.{◌&&◌}
use mathlib.Core.List.{List, [], ◌∷◌}
use lib.Dec.{T, eqb, eqb→eq}
use lib.Ieee.{Float, binary32, fits, round, add, sub, mul, div, le, lt, eq, neg, to_bits, of_bits, of_int, to_signed}
use lib.Ieee.Bits.{of_bits-to_bits}
use lib.Ieee.Fits.{and_l, and_r}
use Rattle.elementary.specs.Basic.{absolute, cut_toward}
use Rattle.limits.specs.Refusals.{first_refusal}
use Rattle.limits.specs.Tests.{is_ioncap_type, outside, any_outside, too_many_bays}
use Rattle.parameters.specs.Params.{is_type}
use Rattle.parameters.specs.Kind.{kind_of}
use Rattle.parameters.specs.Model.{curtain_elevation_threshold}
use Rattle.finish.specs.Finish.{monopole_efficiency, efficiency_of, floored, ground_of}
use Rattle.curtain.specs.Floor.{takes_pattern}
use Rattle.curtain.specs.Gain.{rain_of, sok_of}
use Rattle.curtain.specs.Cell as Curtain
use Rattle.patterns.specs.Pattern.{pattern_of}
use Rattle.antennas.specs.Antenna.{antenna_of}
use Rattle.rows.specs.Row.{sok_for, height_for, eff8_for, row_of}
use Rattle.cells.specs.Cell.{blends_with_zenith, curtain_cell, cell_of, cell_gain}
use Rattle.gain_core.specs.Core.{above_ground, at_ground, work_of}
use Rattle.ioncap.specs.Gain.{call_outside, mhz_outside, call_refusal, call_work, gain_of}
use Rattle.std.specs.Prelude.{Result, Ok, Err}
use Rattle.gain_core.specs.declared.calls.Answer.{Answer}
use Rattle.refusals.specs.Refusals.{number_of, refusal_of}
use Rattle.refusals.specs.declared.Refusal.{Refusal}
use Rattle.refusals.proofs.Refusals.{refusal_of_number}
use Rattle.table.specs.Table.{is_table}
use Rattle.antenna.specs.Places.{clamped, next_of, place_of}
use Rattle.antenna.specs.Rows as Table
use Rattle.lookup_refusals.specs.LookupRefusals.{lookup_refusal}
use Rattle.antenna.specs.Lookups.{gain_lookup_of}
use Rattle.antenna.specs.declared.rows.GainEfficiency.{GainEfficiency}
use Rattle.inverted_cone.specs.InvertedCone.{cone_freqs, cone_elevs, cone, upper_from, upper_of, interp_of, weight_of, cone_at, cone_value, invcon_number, invcon_of}
use Rattle.output.specs.Field.{spelled, decimal, text, justified, integer_field}
use Rattle.marked_examples.specs.Examples.{Example, gain_is, cone_is, lookup_is, field_is, Is, EachIs, table, examples}
use Rattle.marked_examples.specs.Examples.{same, same_gain, same_cone, same_lookup, same_bytes, holds, all, all_hold}

-- the test
pub marked_examples_hold : T all_hold
unfolding all_hold all holds table same same_gain same_cone same_lookup same_bytes gain_of call_refusal call_outside mhz_outside call_work work_of
    at_ground above_ground blends_with_zenith cell_gain cell_of curtain_cell antenna_of sok_for height_for eff8_for row_of pattern_of
    Curtain.cell_of rain_of sok_of takes_pattern floored efficiency_of monopole_efficiency ground_of curtain_elevation_threshold is_type kind_of first_refusal
    is_ioncap_type outside any_outside too_many_bays absolute cut_toward is_table clamped next_of place_of Table.row_of Table.blended lookup_refusal
    gain_lookup_of cone_freqs cone_elevs cone upper_from upper_of interp_of weight_of cone_at cone_value invcon_number invcon_of integer_field justified
    text decimal spelled fits round add sub mul div le lt eq neg to_bits of_int to_signed
marked_examples_hold = tt

-- ---- what it says of each
-- two f32s of the same bits are equal
float_is : (x y : Float) → T (same x y) → x ≡ y
unfolding same
float_is x y t =
    let fit = fits binary32 x && fits binary32 y in
    let bits = eqb (to_bits binary32 x) (to_bits binary32 y) in
    sym (of_bits-to_bits binary32 x (and_l (fits binary32 x) (fits binary32 y) (and_l fit bits t)))
    ∙ ap (of_bits binary32) (eqb→eq (to_bits binary32 x) (to_bits binary32 y) (and_r fit bits t))
    ∙ of_bits-to_bits binary32 y (and_r (fits binary32 x) (fits binary32 y) (and_l fit bits t))

refusal_is : (m n : Refusal) → T (eqb (number_of m) (number_of n)) → m ≡ n
refusal_is m n t = sym (refusal_of_number m) ∙ ap refusal_of (eqb→eq (number_of m) (number_of n) t) ∙ refusal_of_number n

gain_is_lem : (g h : Result Answer Refusal) → T (same_gain g h) → g ≡ h
unfolding same_gain
gain_is_lem (Ok a) (Ok b) t =
    let g = same a.gain b.gain in
    let e = same a.efficiency b.efficiency in
    let h = same a.height b.height in
    let gain = float_is a.gain b.gain (and_l g e (and_l (g && e) h t)) in
    let efficiency = float_is a.efficiency b.efficiency (and_r g e (and_l (g && e) h t)) in
    let height = float_is a.height b.height (and_r (g && e) h t) in
    λ i. Ok (record { gain = gain i; efficiency = efficiency i; height = height i })
gain_is_lem (Ok a) (Err n) t = absurd t
gain_is_lem (Err m) (Ok b) t = absurd t
gain_is_lem (Err m) (Err n) t = ap Err (refusal_is m n t)

cone_is_lem : (g h : Result Float Refusal) → T (same_cone g h) → g ≡ h
unfolding same_cone
cone_is_lem (Ok a) (Ok b) t = ap Ok (float_is a b t)
cone_is_lem (Ok a) (Err n) t = absurd t
cone_is_lem (Err m) (Ok b) t = absurd t
cone_is_lem (Err m) (Err n) t = ap Err (refusal_is m n t)

lookup_is_lem : (g h : Result GainEfficiency Refusal) → T (same_lookup g h) → g ≡ h
unfolding same_lookup
lookup_is_lem (Ok a) (Ok b) t =
    let g = same a.gain b.gain in
    let e = same a.efficiency b.efficiency in
    let gain = float_is a.gain b.gain (and_l g e t) in
    let efficiency = float_is a.efficiency b.efficiency (and_r g e t) in
    λ i. Ok (record { gain = gain i; efficiency = efficiency i })
lookup_is_lem (Ok a) (Err n) t = absurd t
lookup_is_lem (Err m) (Ok b) t = absurd t
lookup_is_lem (Err m) (Err n) t = ap Err (refusal_is m n t)

bytes_are : (xs ys : List ℕ) → T (same_bytes xs ys) → xs ≡ ys
unfolding same_bytes
bytes_are [] [] t = refl
bytes_are [] (y ∷ ys) t = absurd t
bytes_are (x ∷ xs) [] t = absurd t
bytes_are (x ∷ xs) (y ∷ ys) t =
    ap₂ {C = List ℕ} (λ z zs. z ∷ zs) (eqb→eq x y (and_l (eqb x y) (same_bytes xs ys) t)) (bytes_are xs ys (and_r (eqb x y) (same_bytes xs ys) t))

example_is : (e : Example) → T (holds e) → Is e
unfolding holds Is
example_is (gain_is call height answer) t = gain_is_lem (gain_of call height) answer t
example_is (cone_is freq elev answer) t = cone_is_lem (invcon_of freq elev) answer t
example_is (lookup_is cells fmc delta answer) t = lookup_is_lem (gain_lookup_of cells fmc delta) answer t
example_is (field_is v w bytes) t = bytes_are (integer_field v w) bytes t

each-is : (es : List Example) → T (all es) → EachIs es
unfolding all EachIs
each-is [] t = tt
each-is (e ∷ es) t = (example_is e (and_l (holds e) (all es) t), each-is es (and_r (holds e) (all es) t))

pub marked_examples_are : EachIs examples
unfolding all_hold
marked_examples_are = each-is examples marked_examples_hold
