use mathlib.Core.Path.{sym}
use Rattle.std.proofs.lemmas.Result.{err_from_is_err_and}
use Rattle.refusals.proofs.Refusals as R
use Rattle.lookup_refusals.proofs.Accepted.{accepted, judged_by_length}
use Rattle.antenna.specs.Lookups.{gain_lookup_of}
use Rattle.antenna.proofs.Bounds.{low_in, high_in}
use Rattle.antenna.proofs.lookups.lookup.Goals as goal

pub returns-in_err-refusal_by_length : goal.returns-in_err-refusal_by_length
unfolding gain_lookup_of
returns-in_err-refusal_by_length g c =
    let p = err_from_is_err_and c.from_residual.result c.from_residual.ensures.1 in
    let j = judged_by_length _ _ _ c.is_table.ensures c.refusal_by_length.ensures in
    rw (p.1, p.2) (sym (R.answered_err j _ c.in_err-refusal_by_length.was))

pub locate-at-requires : goal.locate-at-requires
locate-at-requires g c =
    let j = judged_by_length _ _ _ c.is_table.ensures c.refusal_by_length.ensures in
    let a = accepted _ _ _ (R.accepted j c.in_ok-refusal_by_length.was) in
    (a.1, a.2)

pub invariant_of-reading : goal.invariant_of-reading
invariant_of-reading g c =
    let j = judged_by_length _ _ _ c.is_table.ensures c.refusal_by_length.ensures in
    let at = c.locate-at.ensures in
    record {
      table_len = (accepted _ _ _ (R.accepted j c.in_ok-refusal_by_length.was)).0;
      low_in = rw at (low_in _ _);
      high_in = rw at (high_in _ _);
    }

pub returns : goal.returns
unfolding gain_lookup_of
returns g c =
    let j = judged_by_length _ _ _ c.is_table.ensures c.refusal_by_length.ensures in
    rw (c.blend.ensures, c.locate-at.ensures) (sym (R.answered_ok j _ c.in_ok-refusal_by_length.was))
