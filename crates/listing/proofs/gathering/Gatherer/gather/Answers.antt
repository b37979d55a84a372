use Rattle.listing.proofs.Pieces.{gather_step}
use Rattle.listing.proofs.gathering.Gatherer.gather.Goals as goal

pub loop-i-preserved : goal.loop-i-preserved
loop-i-preserved c = gather_step _ _ _ _ c.loop-i.invariant _ c.loop-i-test.true c.if-b-eq-LINE_FEED.false c.push.ensures
