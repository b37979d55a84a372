use mathlib.Core.Path.{◌≡◌}
use Rattle.curtain.specs.Elements.{sums_of}
use Rattle.curtain.proofs.elements.element_sums.Given as goal

abbrev pub invariant-loop-j : goal.invariant-loop-j
invariant-loop-j l = (l.hreal ≡ (sums_of l.j l.waves l.ch l.ph).real) × (l.himg ≡ (sums_of l.j l.waves l.ch l.ph).imag)
    × (l.vreal ≡ (sums_of l.j l.waves l.cv l.pv).real) × (l.vimg ≡ (sums_of l.j l.waves l.cv l.pv).imag)
