use Prim.Native.Nat.{◌≤◌}
use Rattle.deck_examples.proofs.removal.print_differences.Given as goal

abbrev pub invariant-loop-k : goal.invariant-loop-k
invariant-loop-k g l = l.differ ≤ l.k
