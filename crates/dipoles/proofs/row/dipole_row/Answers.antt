use mathlib.Core.Path.{ap}
use Rattle.std.specs.Prelude.{Some}
use lib.Ieee.{round, of_bits}
use Rattle.integrals.proofs.Refusal.{settled_answers}
use Rattle.dipoles.specs.Row.{dipole_row, zero_dipole}
use Rattle.dipoles.proofs.Refusal.{dipole_number_lem}
use Rattle.dipoles.proofs.row.dipole_row.Goals as goal

pub returns-in_err-pair : goal.returns-in_err-pair
unfolding dipole_row round of_bits
returns-in_err-pair c = settled_answers zero_dipole _ _ (dipole_number_lem c.args.fac c.args.hwave) _ (rw (
  ← c.integral_pair.ensures.0,
  c.in_err-pair.was,
) c.from_residual.ensures)

pub returns : goal.returns
unfolding dipole_row round of_bits
returns c = settled_answers zero_dipole _ _ (dipole_number_lem c.args.fac c.args.hwave) _ (rw (
  ← c.integral_pair.ensures.0,
  c.in_ok-pair.was,
  ← c.xr_of.ensures,
  ← c.cos.ensures,
) (ap Some c.with.ensures))
