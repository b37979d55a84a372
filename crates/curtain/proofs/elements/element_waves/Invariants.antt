use mathlib.Core.Path.{◌≡◌}
use Rattle.curtain.specs.Elements.{waves_of}
use Rattle.curtain.proofs.elements.element_waves.Given as goal

abbrev pub invariant-loop-j : goal.invariant-loop-j
invariant-loop-j l = l.waves ≡ waves_of l.j l.q l.h1 l.dz
