use mathlib.Core.Path.{◌≡◌}
use lib.ListN.{drop}
use Rattle.limits.specs.Tests.{any_outside}
use Rattle.limits.proofs.numbers.any_outside.Given as goal

abbrev pub invariant-loop-x : goal.invariant-loop-x
invariant-loop-x l = any_outside (drop l.x-index l.numbers) ≡ any_outside l.numbers
