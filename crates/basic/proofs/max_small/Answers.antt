use lib.Ieee.{round, of_bits}
use Rattle.basic.proofs.Larger.{max_is}
use Rattle.basic.proofs.max_small.Goals as goal

pub returns : goal.returns
unfolding round of_bits
returns c = max_is _ _ c.well_formed.0.1 c.max.ensures.value
