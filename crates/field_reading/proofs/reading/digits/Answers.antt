use Rattle.field_reading.proofs.Steps.{digit_step}
use Rattle.field_reading.proofs.reading.digits.Goals as goal

pub loop-b-preserved : goal.loop-b-preserved
loop-b-preserved c = digit_step _ _ _ c.loop-b.invariant c.loop-b-test.true (cc)
