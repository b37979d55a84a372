use Prim.Native.Nat.{◌<◌}
use Rattle.elementary_sweep.proofs.fold_block.Given as goal

abbrev pub invariant-loop-place : goal.invariant-loop-place
invariant-loop-place l = l.h < 4294967291
