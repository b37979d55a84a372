-- The turns in the code are the definitions'. Assumes nothing.
use mathlib.Core.Path.{◌≡◌, refl}
use lib.Ieee.{round, of_bits}
use Rattle.lengths.specs.declared.length.TheConstants.{HEIGHT_TURN, MONOPOLE_TURN}
use Rattle.lengths.specs.Length.{height_turn, monopole_turn}

pub height_turn_is : HEIGHT_TURN ≡ height_turn
unfolding round of_bits
height_turn_is = refl

pub monopole_turn_is : MONOPOLE_TURN ≡ monopole_turn
unfolding round of_bits
monopole_turn_is = refl
