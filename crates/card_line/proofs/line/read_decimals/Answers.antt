use Rattle.std.proofs.Common.{refl}
use Rattle.card_line.proofs.TenFields.{reading_start, reading_step}
use Rattle.card_line.proofs.line.read_decimals.Goals as goal

pub loop-k-init : goal.loop-k-init
loop-k-init c = reading_start _ _ refl

pub loop-k-preserved : goal.loop-k-preserved
loop-k-preserved c = reading_step _ _ _ _ _ c.loop-k.invariant c.loop-k-test.true c.read_decimal.ensures.0 c.in_ok-values.was
