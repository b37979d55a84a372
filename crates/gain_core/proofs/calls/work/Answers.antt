use Rattle.std.proofs.Common.{arith}
use Rattle.std.proofs.lemmas.Grind.{common_steps}
use lib.Ieee.{round, of_bits}
use Rattle.gain_core.specs.Core.{above_ground, at_ground, work_of}
use Rattle.gain_core.proofs.Unsettled.{all_answers}
use Rattle.gain_core.proofs.calls.work.Goals as goal

pub returns-then-without_row : goal.returns-then-without_row
unfolding work_of at_ground round of_bits
returns-then-without_row c = all_answers _ _ _ _ _ _ (grind (arith, common_steps))

pub returns-in_err-settled : goal.returns-in_err-settled
unfolding work_of at_ground above_ground round of_bits
returns-in_err-settled c = all_answers _ _ _ _ _ _ (grind (arith, common_steps))

pub returns-then-delta : goal.returns-then-delta
unfolding work_of at_ground round of_bits
returns-then-delta c = all_answers _ _ _ _ _ _ (grind (arith, common_steps))

pub returns : goal.returns
unfolding work_of above_ground round of_bits
returns c = all_answers _ _ _ _ _ _ (grind (arith, common_steps))
