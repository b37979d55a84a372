use Rattle.std.proofs.Common.{sym, ◌∙◌}
use Rattle.field_reading.proofs.Malformed.{decimal_reading}
use Rattle.field_reading.proofs.Parts.{too_short, no_front, no_back, no_point, value}
use Rattle.field_reading.proofs.reading.read_decimal.Goals as goal

pub returns-in_err-point : goal.returns-in_err-point
returns-in_err-point c = decimal_reading _ _ (c.from_residual.ensures ∙ too_short _ c.in_err-point.ensures)

pub returns-in_err-minus : goal.returns-in_err-minus
returns-in_err-minus c =
    let e = sym c.in_err-minus.was ∙ c.signed_digits.ensures in
    decimal_reading _ _ (c.from_residual-in_err-minus.ensures ∙ no_front _ _ c.in_ok-point.ensures.0 c.in_ok-point.ensures.1 e)

pub returns-in_err-decimals : goal.returns-in_err-decimals
returns-in_err-decimals c =
    let e = sym c.in_err-decimals.was ∙ c.digits.ensures in
    decimal_reading _ _ (c.from_residual-in_err-decimals.ensures ∙ no_back _ _ c.in_ok-point.ensures.0 c.in_ok-point.ensures.1 e)

pub returns-then-s-point-ne46 : goal.returns-then-s-point-ne46
returns-then-s-point-ne46 c = decimal_reading _ _ (no_point _ _ c.in_ok-point.ensures.0 c.in_ok-point.ensures.1 c.if-s-point-ne46.true)

pub returns : goal.returns
returns c =
    let front = sym c.in_ok-minus.was ∙ c.signed_digits.ensures in
    let back = sym c.in_ok-decimals.was ∙ c.digits.ensures in
    decimal_reading _ _ (value _ _ c.in_ok-point.ensures.0 c.in_ok-point.ensures.1 _ _ _ front back c.if-s-point-ne46.false c.ten_thousandths.ensures)
