-- At the curtain's floor the gain is -30 plus the element slot, uncut, if that exceeds -30, else -30. Assumes nothing.
use mathlib.Core.Path.{◌≡◌, refl, ap, ◌∙◌}
use mathlib.Core.Bool.{cond}
use lib.Dec.{T}
use lib.Ieee.{Float, binary32, fits, le, add, neg, round}
use Rattle.single.specs.Single.{◌⊞◌, num}
use Rattle.single.proofs.Floor.{lowered_plus}
use Rattle.reflection.proofs.Sum.{⊞_comm}
use Rattle.parameters.specs.declared.kind.Kind.TheVariants as K
use Rattle.curtain.specs.Gain.{rain_of, sok_of}
use Rattle.curtain.specs.declared.gain.CurtainGain.TheVariants.{Floor}
use Rattle.finish.specs.Finish.{floor, efficiency_of, floored}

floor_plus_zero : floor ⊞ num 0 1 ≡ floor
unfolding add neg round
floor_plus_zero = refl

pub curtain_floor : (slot x eff8 : Float) → T (fits binary32 slot)
    → floored K.Curtain (rain_of Floor) (efficiency_of K.Curtain x eff8) (sok_of Floor slot) ≡ cond (le (floor ⊞ slot) floor) floor (floor ⊞ slot)
unfolding floored rain_of sok_of efficiency_of
curtain_floor slot x eff8 h =
    let count : floor ⊞ (num 0 1 ⊞ slot) ≡ floor ⊞ slot = ap (λ (y : Float). floor ⊞ y) (⊞_comm (num 0 1) slot) ∙ lowered_plus slot h in
    rw (count, floor_plus_zero) refl
