use Rattle.deck.proofs.Elevations.{columns_step}
use Rattle.deck.proofs.columns.all_columns.Goals as goal

pub loop-d-preserved : goal.loop-d-preserved
loop-d-preserved c = columns_step _ _ _ _ _ c.loop-d.invariant c.loop-d-test.true c.radians_of-delta.ensures c.cos.ensures
