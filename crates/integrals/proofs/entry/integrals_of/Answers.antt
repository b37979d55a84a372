use mathlib.Core.Path.{ap}
use lib.Ieee.{round, of_bits}
use Rattle.std.specs.Prelude.{Some}
use Rattle.integrals.specs.Cisi.{integrals_of}
use Rattle.integrals.proofs.Refusal.{integrals_answers}
use Rattle.integrals.proofs.entry.integrals_of.Goals as goal

pub returns-in_err-ci : goal.returns-in_err-ci
unfolding integrals_of round of_bits
returns-in_err-ci c = integrals_answers c.args.x _ (rw (c.if-x.true, ← c.ci_series.ensures.0, c.in_err-ci.was) c.from_residual.ensures)

pub returns-in_err-si : goal.returns-in_err-si
unfolding integrals_of round of_bits
returns-in_err-si c = integrals_answers c.args.x _ (rw (
  c.if-x.true,
  ← c.ci_series.ensures.0,
  c.in_ok-ci.was,
  ← c.si_series.ensures.0,
  c.in_err-si.was,
) c.from_residual-in_err-si.ensures)

pub returns-then-x : goal.returns-then-x
unfolding integrals_of round of_bits
returns-then-x c = integrals_answers c.args.x _ (rw (c.if-x.true, ← c.ci_series.ensures.0, c.in_ok-ci.was, ← c.si_series.ensures.0, c.in_ok-si.was))

pub returns : goal.returns
unfolding integrals_of round of_bits
returns c = integrals_answers c.args.x _ (rw (c.if-x.false, ← c.rational.ensures) (ap Some c.at_once.ensures))
