-- Refusal 11 arises in the resistance where, and only where, one of its two integrals is unsettled. Assumes nothing.
use mathlib.Core.Path.{◌≡◌, ◌∙◌, refl}
use lib.Ieee.{Float}
use Rattle.std.specs.Prelude.{None, cond}
use Rattle.single.specs.Single.{num}
use Rattle.single.specs.Answer.{IsAnswer}
use Rattle.integrals.specs.Settled.{settled_number, unsettled_number, settled_value}
use Rattle.integrals.specs.declared.settled.Settled.{Settled}
use Rattle.integrals.specs.Pair.{integral_pair, pair_settles}
use Rattle.integrals.proofs.Refusal.{map_number, pair_number, settled_answers}
use Rattle.resistance.specs.Resistance.{resistance_of}

pub resistance_number_lem : (d z : Float) → unsettled_number (resistance_of d z) ≡ settled_number (pair_settles d z)
unfolding resistance_of
resistance_number_lem d z = map_number _ _ ∙ pair_number d z

-- where the integrals are unsettled, it is unsettled
unsettled : (d z : Float) → None ≡ integral_pair d z
    → IsAnswer unsettled_number (settled_value (num 0 1)) (num 0 1) 11 (resistance_of d z) (pair_settles d z) None
unfolding resistance_of
unsettled d z e = settled_answers (num 0 1) _ _ (resistance_number_lem d z) None (rw (← e) refl)

pub none_answer : (d z : Float) → None ≡ integral_pair d z → None ≡ resistance_of d z
none_answer d z e = (unsettled d z e).0

pub none_number : (d z : Float) → None ≡ integral_pair d z
    → unsettled_number {A = Settled Float} None ≡ cond (pair_settles d z) 0 11
none_number d z e = (unsettled d z e).1

pub none_value : (d z : Float) → None ≡ integral_pair d z
    → settled_value (num 0 1) None ≡ cond (pair_settles d z) (settled_value (num 0 1) (resistance_of d z)) (num 0 1)
none_value d z e = (unsettled d z e).2
