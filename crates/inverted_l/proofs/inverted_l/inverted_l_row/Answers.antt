use mathlib.Core.Path.{ap}
use Rattle.std.specs.Prelude.{Some}
use lib.Ieee.{round, of_bits}
use Rattle.integrals.proofs.Refusal.{settled_answers}
use Rattle.inverted_l.specs.InvertedL.{inverted_l_row, zero_inverted_l}
use Rattle.inverted_l.proofs.Refusal.{inverted_l_number_lem}
use Rattle.inverted_l.proofs.inverted_l.inverted_l_row.Goals as goal

pub returns-in_err-resistance : goal.returns-in_err-resistance
unfolding inverted_l_row round of_bits
returns-in_err-resistance c = settled_answers zero_inverted_l _ _ (inverted_l_number_lem c.args.fac c.args.hwave) _ (rw (
  ← c.resistance_of.ensures.0,
  c.in_err-resistance.was,
) c.from_residual.ensures)

pub returns : goal.returns
unfolding inverted_l_row round of_bits
returns c = settled_answers zero_inverted_l _ _ (inverted_l_number_lem c.args.fac c.args.hwave) _ (rw (
  ← c.resistance_of.ensures.0,
  c.in_ok-resistance.was,
  ← c.eff8_of.ensures,
  ← c.sin_cos-of_leg.ensures.0,
  ← c.sin_cos-of_leg.ensures.1,
  ← c.sin_cos-of_sum.ensures.0,
  ← c.sin_cos-of_sum.ensures.1,
) (ap Some c.with.ensures))
