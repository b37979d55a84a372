-- Number and values together tell answers apart, so that `cisi`'s contract gives its answer whole; it accepts exactly what is within
-- the limits and settles. Assumes nothing.
use mathlib.Core.Path.{◌≡◌, refl, sym, ap, ◌∙◌}
use mathlib.Core.Bool.{Bool, true, false, cond, ◌&&◌}
use mathlib.Core.Logic.{◌↔◌}
use native.Mathlib.Omega.{arith}
use lib.Ieee.{Float}
use Rattle.std.specs.Prelude.{Result, Ok, Err}
use Rattle.single.proofs.Booleans.{holds}
use Rattle.refusals.specs.declared.Refusal.{Refusal}
use Rattle.refusals.specs.Refusals.{refusal_of, outcome_number, outcome_values}
use Rattle.refusals.proofs.Refusals.{refusal_of_number, number_positive}
use Rattle.integrals.specs.Settled.{settled_number}
use Rattle.integrals.specs.Cisi.{zeros, in_limits, integrals_settle, cisi_number}
use Rattle.integrals.specs.declared.rational.Integrals.{Integrals}

pub answer_unique : (a b : Result Integrals Refusal) → outcome_number a ≡ outcome_number b → outcome_values zeros a ≡ outcome_values zeros b → a ≡ b
answer_unique (Ok v) (Ok w) n e = ap Ok e
answer_unique (Ok v) (Err f) n e = absurd (omega (arith, number_positive f))
answer_unique (Err e) (Ok w) n v = absurd (omega (arith, number_positive e))
answer_unique (Err e) (Err f) n v = ap Err (sym (refusal_of_number e) ∙ ap refusal_of n ∙ refusal_of_number f)

pub zero_none_of_cisi : (x : Float) → (cisi_number x ≡ 0) ↔ ((in_limits x && integrals_settle x) ≡ true)
unfolding cisi_number
zero_none_of_cisi x = go (in_limits x) (integrals_settle x)
  where
    go : (within settles : Bool) → (cond within (settled_number settles) 6 ≡ 0) ↔ ((within && settles) ≡ true)
    go true true = (λ e. refl, λ e. refl)
    go true false = (λ e. absurd (omega (arith, e)), λ e. absurd (holds e))
    go false settles = (λ e. absurd (omega (arith, e)), λ e. absurd (holds e))
