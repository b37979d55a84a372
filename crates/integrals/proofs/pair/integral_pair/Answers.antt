use Rattle.integrals.specs.Pair.{integral_pair}
use Rattle.integrals.proofs.Refusal.{pair_answers}
use Rattle.integrals.proofs.pair.integral_pair.Goals as goal

pub returns-in_err-first : goal.returns-in_err-first
unfolding integral_pair
returns-in_err-first c = pair_answers c.args.x c.args.y _ (rw (← c.integrals_of.ensures.0, c.in_err-first.was) c.from_residual.ensures)

pub returns-in_err-second : goal.returns-in_err-second
unfolding integral_pair
returns-in_err-second c = pair_answers c.args.x c.args.y _ (rw (
  ← c.integrals_of.ensures.0,
  c.in_ok-first.was,
  ← c.integrals_of-2.ensures.0,
  c.in_err-second.was,
) c.from_residual-in_err-second.ensures)

pub returns : goal.returns
unfolding integral_pair
returns c = pair_answers c.args.x c.args.y _ (rw (
  ← c.integrals_of.ensures.0,
  c.in_ok-first.was,
  ← c.integrals_of-2.ensures.0,
  c.in_ok-second.was,
  ← c.max.ensures,
))
