use Prim.Native.Nat.{◌*◌, ◌≤◌}
use Rattle.deck_examples.proofs.removal.compare_without.Given as goal

abbrev pub invariant-loop-k : goal.invariant-loop-k
invariant-loop-k g l = (l.numbers ≤ l.k * 2760) × (l.verdicts ≤ l.k)
