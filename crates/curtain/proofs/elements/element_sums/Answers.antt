use native.Mathlib.Numerals.{add-one}
use lib.Ieee.{round, of_bits}
use Rattle.curtain.specs.Elements.{sums_from, plus}
use Rattle.curtain.proofs.elements.element_sums.Goals as goal

pub loop-j-preserved : goal.loop-j-preserved
unfolding sums_from plus round of_bits
loop-j-preserved c =
    let l = c.loop-j in
    (rw (add-one l.j, ← l.invariant.0), rw (add-one l.j, ← l.invariant.1), rw (add-one l.j, ← l.invariant.2), rw (add-one l.j, ← l.invariant.3))
