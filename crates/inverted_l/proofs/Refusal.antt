-- Refusal 11 arises in a row of type 8 where, and only where, one of its two integrals is unsettled. Assumes nothing.
use mathlib.Core.Path.{◌≡◌, ◌∙◌, refl}
use lib.Ieee.{Float}
use Rattle.std.specs.Prelude.{Option, None, cond}
use Rattle.single.specs.Answer.{IsAnswer}
use Rattle.integrals.specs.Settled.{settled_number, unsettled_number, settled_value}
use Rattle.integrals.specs.declared.settled.Settled.{Settled}
use Rattle.single.specs.Single.{◌⊞◌}
use Rattle.resistance.specs.Resistance.{resistance_of}
use Rattle.inverted_l.specs.declared.inverted_l.InvertedL.{InvertedL}
use Rattle.integrals.proofs.Refusal.{map_number, settled_answers}
use Rattle.resistance.proofs.Refusal.{resistance_number_lem}
use Rattle.inverted_l.specs.InvertedL.{inverted_l_row, inverted_l_settles, zero_inverted_l}

pub inverted_l_number_lem : (fac hwave : Float) → unsettled_number (inverted_l_row fac hwave) ≡ settled_number (inverted_l_settles hwave)
unfolding inverted_l_row inverted_l_settles
inverted_l_number_lem fac hwave = map_number _ _ ∙ resistance_number_lem _ _

-- the resistance that a row takes, by its height's hwave
abbrev taken : Float → Option (Settled Float)
taken hwave = let hac2 = hwave ⊞ hwave in resistance_of hac2 (hac2 ⊞ hac2)

-- where its resistance is unsettled, so is the row
unsettled : (fac hwave : Float) → None ≡ taken hwave
    → IsAnswer unsettled_number (settled_value zero_inverted_l) zero_inverted_l 11 (inverted_l_row fac hwave) (inverted_l_settles hwave) None
unfolding inverted_l_row
unsettled fac hwave e = settled_answers zero_inverted_l _ _ (inverted_l_number_lem fac hwave) None (rw (← e) refl)

pub none_answer : (fac hwave : Float) → None ≡ taken hwave → None ≡ inverted_l_row fac hwave
none_answer fac hwave e = (unsettled fac hwave e).0

pub none_number : (fac hwave : Float) → None ≡ taken hwave
    → unsettled_number {A = Settled InvertedL} None ≡ cond (inverted_l_settles hwave) 0 11
none_number fac hwave e = (unsettled fac hwave e).1

pub none_value : (fac hwave : Float) → None ≡ taken hwave
    → settled_value zero_inverted_l None ≡ cond (inverted_l_settles hwave) (settled_value zero_inverted_l (inverted_l_row fac hwave)) zero_inverted_l
none_value fac hwave e = (unsettled fac hwave e).2
