use Prim.Native.Nat.{◌-◌}
use Rattle.field_reading.proofs.Round.{Scaling}
use Rattle.field_reading.proofs.nearest.quotient.Given as goal

abbrev pub invariant-loop-m : goal.invariant-loop-m
invariant-loop-m l = Scaling l.n l.m l.k

abbrev pub decreases-loop-m : goal.decreases-loop-m
decreases-loop-m l = 83886080000 - l.m
