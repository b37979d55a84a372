use Rattle.std.proofs.Common.{refl}
use Rattle.listing.proofs.Pieces.{pushed_more, pushed_full}
use Rattle.listing.proofs.gathering.Gatherer.push.Goals as goal

pub returns-then-self-lt-MOST_HELD : goal.returns-then-self-lt-MOST_HELD
returns-then-self-lt-MOST_HELD c = pushed_more _ _ _ refl c.requires c.if-self-lt-MOST_HELD.true refl refl

pub returns-else-self-lt-MOST_HELD : goal.returns-else-self-lt-MOST_HELD
returns-else-self-lt-MOST_HELD c = pushed_full _ _ _ refl c.requires c.if-self-lt-MOST_HELD.false refl refl
