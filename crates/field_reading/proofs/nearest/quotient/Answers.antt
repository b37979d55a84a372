use Rattle.std.proofs.Common.{arith}
use Rattle.field_reading.proofs.Round.{scaling_step}
use Rattle.field_reading.proofs.nearest.quotient.Goals as goal

pub loop-m-preserved : goal.loop-m-preserved
loop-m-preserved c = scaling_step _ _ _ (omega arith) c.loop-m.invariant c.loop-m-test.true
