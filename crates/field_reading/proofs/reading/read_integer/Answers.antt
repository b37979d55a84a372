use Rattle.std.proofs.Common.{sym, ◌∙◌}
use Rattle.field_reading.proofs.Malformed.{integer_reading}
use Rattle.field_reading.proofs.Parts.{no_integer, negative, positive}
use Rattle.field_reading.proofs.reading.read_integer.Goals as goal

pub returns-in_err-minus : goal.returns-in_err-minus
returns-in_err-minus c = integer_reading _ _ (c.from_residual.ensures ∙ no_integer _ (sym c.in_err-minus.was ∙ c.signed_digits.ensures))

pub returns-then-minus : goal.returns-then-minus
returns-then-minus c = integer_reading _ _ (negative _ _ (sym c.in_ok-minus.was ∙ c.signed_digits.ensures) c.if-minus.true)

pub returns-else-minus : goal.returns-else-minus
returns-else-minus c = integer_reading _ _ (positive _ _ (sym c.in_ok-minus.was ∙ c.signed_digits.ensures) c.if-minus.false)
