use Prim.Native.Nat.{◌≤◌}
use Rattle.elementary_sweep.proofs.number.Given as goal

abbrev pub invariant-loop-b : goal.invariant-loop-b
invariant-loop-b g l = l.value ≤ 65536
