-- The number and the values of a lookup's whole answer. Assumes nothing.
use Prim.Native.Nat.{ℕ}
use mathlib.Core.Path.{◌≡◌, refl, ◌∙◌}
use mathlib.Core.Bool.{Bool, true, false, not, cond, ◌&&◌}
use mathlib.Core.List.{List, [], ◌∷◌}
use lib.Dec.{eqb}
use lib.IntN.{ℤ}
use lib.Ieee.{Float}
use Rattle.limits.specs.Refusals.{first_refusal}
use Rattle.limits.specs.Tests.{any_outside}
use Rattle.table.specs.Table.{is_table}
use Rattle.lookup_refusals.specs.LookupRefusals.{lookup_refusal, card_refusal}
use Rattle.std.specs.declared.result.Result.TheVariants.{Ok, Err}
use Rattle.refusals.specs.Refusals.{refusal_of, outcome_number, outcome_values, answered}
use Rattle.antenna.specs.Places.{place_of}
use Rattle.antenna.specs.Rows.{row_of, blended_at}
use Rattle.antenna.specs.Lookups.{zeros, lookup_number, lookup_values, gain_lookup_number, gain_lookup_values, gain_lookup_of}
use Rattle.antenna.specs.Lookups.{card_values, card_lookup_values, card_lookup_of}

by_tests : {A : Type 0} (v : A) (a b : Bool) → outcome_number (answered (cond a 7 (cond b 2 0)) v) ≡ cond a 7 (cond b 2 0)
by_tests v true b = refl
by_tests v false true = refl
by_tests v false false = refl

values_of : {A : Type 0} (z v : A) (n : ℕ) → outcome_values z (answered n v) ≡ cond (eqb n 0) v z
values_of z v n = go (eqb n 0)
  where
    go : (b : Bool) → outcome_values z (cond b (Ok v) (Err (refusal_of n))) ≡ cond b v z
    go true = refl
    go false = refl

both : {A : Type 0} (z v : A) (a b : Bool) → cond a (cond b v z) z ≡ cond (a && b) v z
both z v true b = refl
both z v false b = refl

pub gain_number : (t : List Float) (fmc delta : Float) → lookup_number (gain_lookup_of t fmc delta) ≡ gain_lookup_number t fmc delta
unfolding gain_lookup_of lookup_refusal first_refusal
gain_number t fmc delta = by_tests _ (not (is_table t)) (any_outside (fmc ∷ delta ∷ []))

pub gain_values : (t : List Float) (fmc delta : Float) → lookup_values (gain_lookup_of t fmc delta) ≡ gain_lookup_values t fmc delta
unfolding gain_lookup_of gain_lookup_values
gain_values t fmc delta = values_of zeros (blended_at (place_of fmc delta) (row_of t)) (lookup_refusal t fmc delta)

pub card_answer_values : (first last : ℤ) (verdict : ℕ) (t : List Float) (fmc delta : Float)
    → lookup_values (card_lookup_of first last verdict t fmc delta) ≡ card_lookup_values first last verdict t fmc delta
unfolding card_lookup_of card_lookup_values
card_answer_values first last verdict t fmc delta =
    let n = card_refusal first last verdict t fmc delta in
    let v = card_values first last t fmc delta in
    values_of zeros (cond (eqb verdict 0) v zeros) n ∙ both zeros v (eqb n 0) (eqb verdict 0)
