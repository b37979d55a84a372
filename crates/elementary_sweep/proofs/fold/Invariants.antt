use Prim.Native.Nat.{◌<◌, ◌≤◌}
use Rattle.elementary_sweep.proofs.fold.Given as goal

abbrev pub invariant-loop-block : goal.invariant-loop-block
invariant-loop-block l = (l.h < 4294967291) × (l.block-iterator.end ≤ 65536)
