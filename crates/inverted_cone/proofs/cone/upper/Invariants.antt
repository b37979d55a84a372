use mathlib.Core.Path.{◌≡◌}
use Prim.Native.Nat.{◌<◌, ◌≤◌}
use lib.ListN.{length, drop}
use Rattle.inverted_cone.specs.InvertedCone.{upper_from}
use Rattle.inverted_cone.proofs.cone.upper.Given as goal

abbrev pub invariant-loop-i : goal.invariant-loop-i
invariant-loop-i l = (1 ≤ l.i) × (l.i < length l.bounds) × (1 ≤ l.found) × (l.found < length l.bounds) × (l.found ≡ upper_from l.x l.i (drop l.i l.bounds))
