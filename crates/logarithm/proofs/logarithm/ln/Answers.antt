use mathlib.Core.Path.{sym, ◌∙◌, ap}
use mathlib.Core.Bool.{true}
use Prim.Native.Nat.{ℕ}
use lib.Ieee.{Float, inf, of_bits, div}
use Rattle.single.proofs.Positive.{Subnormal, subnormal, on_other}
use Rattle.logarithm.specs.Logarithm.{ln_from, logarithm}
use Rattle.logarithm.proofs.Digits.{scaled}
use Rattle.logarithm.proofs.logarithm.ln.Goals as goal
use Rattle.logarithm.proofs.logarithm.ln.Goals.{Then-b-lt8388608}

abbrev at_units : ℕ → Float
at_units n = ln_from n 150

subnormal_y : (c : Then-b-lt8388608) → Subnormal c.args.y
subnormal_y c = subnormal _ c.well_formed.0.1 c.if-y.true c.if-b-lt8388608.true

pub returns-then-b-lt8388608 : goal.returns-then-b-lt8388608
unfolding logarithm
returns-then-b-lt8388608 c =
    let s = subnormal_y c.before in
    c.ln_normal.ensures ∙ ap (λ (n : ℕ). ln_from n 174) (sym s.units) ∙ scaled _ 150 s.some ∙ sym (s.on (inf true) at_units)

pub returns-else-y-2 : goal.returns-else-y-2
unfolding logarithm of_bits div
returns-else-y-2 c = on_other (inf true) at_units c.args.y c.if-y.false c.if-y-2.false
