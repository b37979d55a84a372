use Rattle.lookup_refusals.proofs.Accepted.{judged_by_length}
use Rattle.lookup_refusals.proofs.lookup_refusal.Goals as goal

pub returns : goal.returns
returns c = judged_by_length _ _ _ c.is_table.ensures c.refusal_by_length.ensures
