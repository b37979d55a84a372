use mathlib.Core.Path.{refl}
use lib.Ieee.{round, of_bits}
use Rattle.deck_state.proofs.fresh.Goals as goal

pub returns : goal.returns
unfolding round of_bits
returns c = refl
