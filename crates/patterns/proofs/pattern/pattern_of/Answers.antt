use mathlib.Core.Path.{refl}
use lib.Ieee.{round, of_bits}
use Rattle.patterns.proofs.Unsettled.{type_answers}
use Rattle.patterns.proofs.pattern.pattern_of.Goals as goal

pub returns : goal.returns
unfolding round of_bits
returns c = type_answers _ _ _ _ _ refl c.leg_in_waves-along.ensures c.phase_in_waves-above.ensures c.pattern_by.ensures
