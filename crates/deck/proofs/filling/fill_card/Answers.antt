use mathlib.Core.Path.{refl}
use native.Mathlib.Omega.{arith}
use Rattle.std.proofs.lemmas.Result.{err_from_is_err_and}
use Rattle.deck.proofs.BeforeWork.{number_not_zero}
use Rattle.deck.proofs.CardRows.{rows_read, rows_start, rows_step, rows_last, rows_stop}
use Rattle.deck.proofs.filling.fill_card.Goals as goal

pub loop-m-init : goal.loop-m-init
loop-m-init c = λ f of. rows_start _ _ _ f of _ _

pub returns-in_err-x : goal.returns-in_err-x
returns-in_err-x c =
    let p = err_from_is_err_and c.from_residual.result c.from_residual.ensures.1 in
    let of = rows_read _ _ _ c.read_card-card.ensures c.card_antenna-antenna.ensures c.requires in
    rw (p.1, p.2)
    (rows_stop _ _ _ _ of _ _ _ _ _ _ _ _ (c.loop-m.invariant _ of) c.loop-m.auto.m c.loop-m-test.true c.in_err-x.ensures _ (number_not_zero _))

pub loop-m-preserved : goal.loop-m-preserved
loop-m-preserved c =
    λ f of. rows_step _ _ _ f of _ _ _ _ _ _ _ _ (c.loop-m.invariant f of) c.loop-m.auto.m c.loop-m-test.true c.in_ok-x.ensures refl

pub returns-in_ok-x : goal.returns-in_ok-x
returns-in_ok-x c =
    let of = rows_read _ _ _ c.read_card-card.ensures c.card_antenna-antenna.ensures c.requires in
    rows_last _ _ _ _ of _ _ _ _ _ _ _ _ (c.loop-m.invariant _ of) c.loop-m.auto.m c.loop-m-test.true c.in_ok-x.ensures refl (omega arith)
