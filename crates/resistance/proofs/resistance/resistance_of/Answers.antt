use mathlib.Core.Path.{ap}
use Rattle.std.specs.Prelude.{Some}
use Rattle.single.specs.Single.{num}
use Rattle.integrals.proofs.Refusal.{settled_answers}
use Rattle.resistance.specs.Resistance.{resistance_of}
use Rattle.resistance.proofs.Refusal.{resistance_number_lem}
use Rattle.resistance.proofs.resistance.resistance_of.Goals as goal

pub returns-in_err-pair : goal.returns-in_err-pair
unfolding resistance_of
returns-in_err-pair c =
    settled_answers (num 0 1) _ _ (resistance_number_lem c.args.d c.args.z) _ (rw (← c.integral_pair.ensures.0, c.in_err-pair.was) c.from_residual.ensures)

pub returns : goal.returns
unfolding resistance_of
returns c = settled_answers (num 0 1) _ _ (resistance_number_lem c.args.d c.args.z) _ (rw (
  ← c.integral_pair.ensures.0,
  c.in_ok-pair.was,
  ← c.resistance_from.ensures,
) (ap Some c.with.ensures))
