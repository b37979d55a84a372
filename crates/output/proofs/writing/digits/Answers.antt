use Rattle.output.proofs.Field.{more}
use Rattle.output.proofs.writing.digits.Goals as goal

pub loop-i-preserved : goal.loop-i-preserved
loop-i-preserved c = more _ _ _ _ _ c.loop-i.invariant c.if-rest-lt10.false c.loop-i-test.true
