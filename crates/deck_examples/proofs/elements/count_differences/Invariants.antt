use Prim.Native.Nat.{◌≤◌}
use Rattle.deck_examples.proofs.elements.count_differences.Given as goal

abbrev pub invariant-loop-k : goal.invariant-loop-k
invariant-loop-k l = (l.all ≤ l.k) × (l.up ≤ l.k)
