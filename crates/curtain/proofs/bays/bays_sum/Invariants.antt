use mathlib.Core.Path.{◌≡◌}
use Rattle.curtain.specs.Bays.{sx_of}
use Rattle.curtain.proofs.bays.bays_sum.Given as goal

abbrev pub invariant-loop-i : goal.invariant-loop-i
invariant-loop-i l = l.sx ≡ sx_of l.ep l.nep l.i l.fac3 l.fac4
