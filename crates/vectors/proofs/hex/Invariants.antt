use mathlib.Core.Path.{◌≡◌}
use Rattle.vectors.specs.Line.{hex_to}
use Rattle.vectors.proofs.hex.Given as goal

abbrev pub invariant-loop-b : goal.invariant-loop-b
invariant-loop-b l = l.n ≡ hex_to l.field l.b-index
