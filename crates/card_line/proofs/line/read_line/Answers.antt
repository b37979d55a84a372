use Rattle.std.proofs.Common.{sym, ◌∙◌}
use Rattle.card_line.specs.TenFields.{Values}
use Rattle.card_line.proofs.Integers.{i32_fits}
use Rattle.card_line.proofs.Answers.{all_read}
use Rattle.card_line.proofs.line.read_line.Goals as goal

pub returns : goal.returns
returns c =
    let kop = sym c.read_integer.ensures.0 ∙ c.in_ok-kop.was in
    let first = sym c.read_integer-2.ensures.0 ∙ c.in_ok-first.was in
    let last = sym c.read_integer-3.ensures.0 ∙ c.in_ok-last.was in
    let values : Values c.args.s.now c.in_ok-values.values = (rw c.in_ok-values.was at c.read_decimals.ensures) in
    all_read _ _ _ _ _ _ c.if-s-ne-BYTES.false kop first last values c.card_fields.ensures

pub overflow_cast-kop : goal.overflow_cast-kop
overflow_cast-kop c = i32_fits c.args.s.now 0 _ (sym c.read_integer.ensures.0 ∙ c.in_ok-kop.was)

pub overflow_cast-first : goal.overflow_cast-first
overflow_cast-first c = i32_fits c.args.s.now 3 _ (sym c.read_integer-2.ensures.0 ∙ c.in_ok-first.was)

pub overflow_cast-last : goal.overflow_cast-last
overflow_cast-last c = i32_fits c.args.s.now 6 _ (sym c.read_integer-3.ensures.0 ∙ c.in_ok-last.was)
