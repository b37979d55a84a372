use mathlib.Core.Path.{◌≡◌, sym, ap, ◌∙◌}
use lib.Ieee.{Float, round, of_bits}
use lib.IntN.{ℤ}
use mathlib.Core.List.{List}
use Prim.Native.Nat.{ℕ}
use mir.Syntax.{w32}
use mir.Val.{SFits, to_z, of_z}
use mir.ValLaws.{to_z-of_z}
use borrow.Author.Tests.{eq-eqb, ne_eqb}
use Rattle.std.specs.declared.result.Result.{Result}
use Rattle.std.specs.declared.result.Result.TheVariants.{Ok}
use Rattle.std.proofs.lemmas.Result.{err_from_is_err_and}
use Rattle.refusals.specs.declared.Refusal.{Refusal}
use Rattle.refusals.specs.Refusals.{IsJudged}
use Rattle.refusals.proofs.Refusals as R
use Rattle.table.proofs.Range.{Range, range_of_lem}
use Rattle.lookup_refusals.specs.LookupRefusals.{card_refusal}
use Rattle.lookup_refusals.proofs.Accepted.{card-range}
use Rattle.antenna.specs.Lookups.{lookup_values, card_lookup_of}
use Rattle.antenna.proofs.Wholes.{card_answer_values}
use Rattle.antenna.proofs.lookups.card_lookup.Goals as goal

module _ (first last : ℤ) (verdict : ℕ) (t : List Float) (fmc delta : Float) {r : Result Unit Refusal} where
  -- the ends of the range as the machine reads them back
  back : SFits w32 first → SFits w32 last → IsJudged (card_refusal (to_z w32 (of_z w32 first)) (to_z w32 (of_z w32 last)) verdict t fmc delta) r
      → IsJudged (card_refusal first last verdict t fmc delta) r
  back f l j = rw (to_z-of_z w32 first f, to_z-of_z w32 last l) at j

  ranged : {u : Unit {0}} → IsJudged (card_refusal first last verdict t fmc delta) r → r ≡ Ok u → verdict ≡ 0 → Range first last
  ranged j e v = range_of_lem first last (card-range first last verdict t fmc delta (R.accepted j e) (eq-eqb verdict 0 v))

pub returns-in_err-card_refusal-clause-value : goal.returns-in_err-card_refusal-clause-value
unfolding card_lookup_of
returns-in_err-card_refusal-clause-value c =
    let p = err_from_is_err_and c.from_residual.result c.from_residual.ensures.1 in
    let j = back _ _ _ _ _ _ c.ranges.first c.ranges.last c.card_refusal.ensures in
    rw (p.1, p.2) (sym (R.answered_err j _ c.in_err-card_refusal.was))

pub returns-in_err-card_refusal-clause-values : goal.returns-in_err-card_refusal-clause-values
returns-in_err-card_refusal-clause-values c = ap lookup_values (returns-in_err-card_refusal-clause-value c) ∙ card_answer_values _ _ _ _ _ _

pub returns-then-verdict-ne0-clause-value : goal.returns-then-verdict-ne0-clause-value
unfolding card_lookup_of round of_bits
returns-then-verdict-ne0-clause-value c =
    let j = back _ _ _ _ _ _ c.ranges.first c.ranges.last c.card_refusal.ensures in
    rw (ne_eqb _ 0 c.if-verdict-ne0.true) (sym (R.answered_ok j _ c.in_ok-card_refusal.was))

pub returns-then-verdict-ne0-clause-values : goal.returns-then-verdict-ne0-clause-values
returns-then-verdict-ne0-clause-values c = ap lookup_values (returns-then-verdict-ne0-clause-value c) ∙ card_answer_values _ _ _ _ _ _

pub returns-clause-value : goal.returns-clause-value
unfolding card_lookup_of
returns-clause-value c =
    let j = back _ _ _ _ _ _ c.ranges.first c.ranges.last c.card_refusal.ensures in
    let found = rw (to_z-of_z w32 _ c.ranges.first, to_z-of_z w32 _ c.ranges.last, c.locate-at.ensures) at c.from_filled_rows.ensures in
    rw (found, eq-eqb _ 0 c.if-verdict-ne0.false) (sym (R.answered_ok j _ c.in_ok-card_refusal.was))

pub returns-clause-values : goal.returns-clause-values
returns-clause-values c = ap lookup_values (returns-clause-value c) ∙ card_answer_values _ _ _ _ _ _
