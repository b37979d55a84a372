use mathlib.Core.Path.{ap}
use Rattle.std.specs.Prelude.{Some}
use lib.Ieee.{round, of_bits}
use Rattle.integrals.proofs.Refusal.{settled_answers}
use Rattle.verticals.specs.Monopole.{monopole_row, zero_monopole}
use Rattle.verticals.proofs.Refusal.{monopole_number_lem}
use Rattle.verticals.proofs.monopole.monopole_row.Goals as goal

pub returns-in_err-resistance : goal.returns-in_err-resistance
unfolding monopole_row round of_bits
returns-in_err-resistance c = settled_answers zero_monopole _ _ (monopole_number_lem c.args.leg c.args.wave) _ (rw (
  ← c.phase_in_waves-height.ensures,
  ← c.resistance_of.ensures.0,
  c.in_err-resistance.was,
) c.from_residual.ensures)

pub returns : goal.returns
unfolding monopole_row round of_bits
returns c = settled_answers zero_monopole _ _ (monopole_number_lem c.args.leg c.args.wave) _ (rw (
  ← c.phase_in_waves-height.ensures,
  ← c.resistance_of.ensures.0,
  c.in_ok-resistance.was,
  ← c.leg_in_waves-el1.ensures,
  ← c.short_resistance.ensures,
  ← c.sin_cos-both.ensures.0,
  ← c.sin_cos-both.ensures.1,
) (ap Some c.with.ensures))
