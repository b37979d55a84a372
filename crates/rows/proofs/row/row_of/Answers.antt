use Rattle.std.proofs.Common.{arith}
use Rattle.std.proofs.lemmas.Grind.{common_steps}
use Rattle.rows.specs.Row.{row_of}
use Rattle.rows.proofs.Unsettled.{row_answers}
use Rattle.rows.proofs.row.row_of.Goals as goal

pub returns-in_err-pattern : goal.returns-in_err-pattern
unfolding row_of
returns-in_err-pattern c = row_answers _ _ _ (grind (arith, common_steps))

pub returns : goal.returns
unfolding row_of
returns c = row_answers _ _ _ (grind (arith, common_steps))
