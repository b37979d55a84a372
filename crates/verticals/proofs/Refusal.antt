-- Refusal 11 arises in a row of types 2 and 5 where, and only where, one of its two integrals is unsettled. Assumes nothing.
use mathlib.Core.Path.{◌≡◌, ◌∙◌, refl}
use lib.Ieee.{Float}
use Rattle.lengths.specs.declared.length.Length.{Length}
use Rattle.std.specs.Prelude.{Option, None, cond}
use Rattle.single.specs.Single.{num, ◌⊠◌}
use Rattle.single.specs.Answer.{IsAnswer}
use Rattle.lengths.specs.Length.{phase_of, monopole_turn}
use Rattle.lengths.specs.declared.length.PhaseInWaves.{PhaseInWaves}
use Rattle.resistance.specs.Resistance.{resistance_of}
use Rattle.integrals.specs.Settled.{settled_number, unsettled_number, settled_value}
use Rattle.integrals.specs.declared.settled.Settled.{Settled}
use Rattle.verticals.specs.declared.monopole.Monopole.{Monopole}
use Rattle.integrals.proofs.Refusal.{map_number, settled_answers}
use Rattle.resistance.proofs.Refusal.{resistance_number_lem}
use Rattle.verticals.specs.Monopole.{monopole_row, monopole_settles, zero_monopole}

pub monopole_number_lem : (leg : Length) (wave : Float) → unsettled_number (monopole_row leg wave) ≡ settled_number (monopole_settles leg wave)
unfolding monopole_row monopole_settles
monopole_number_lem leg wave = map_number _ _ ∙ resistance_number_lem _ _

-- the resistance that a row takes, by its height
abbrev taken : PhaseInWaves → Option (Settled Float)
taken height = let d = num 2 1 ⊠ height.phase in resistance_of d (num 2 1 ⊠ d)

-- where its resistance is unsettled, so is the row
unsettled : (leg : Length) (wave : Float) (height : PhaseInWaves) → height ≡ phase_of monopole_turn leg wave → None ≡ taken height
    → IsAnswer unsettled_number (settled_value zero_monopole) zero_monopole 11 (monopole_row leg wave) (monopole_settles leg wave) None
unfolding monopole_row
unsettled leg wave height h e = settled_answers zero_monopole _ _ (monopole_number_lem leg wave) None (rw (← h, ← e) refl)

pub none_answer : (leg : Length) (wave : Float) (height : PhaseInWaves) → height ≡ phase_of monopole_turn leg wave
    → None ≡ taken height → None ≡ monopole_row leg wave
none_answer leg wave height h e = (unsettled leg wave height h e).0

pub none_number : (leg : Length) (wave : Float) (height : PhaseInWaves) → height ≡ phase_of monopole_turn leg wave → None ≡ taken height
    → unsettled_number {A = Settled Monopole} None ≡ cond (monopole_settles leg wave) 0 11
none_number leg wave height h e = (unsettled leg wave height h e).1

pub none_value : (leg : Length) (wave : Float) (height : PhaseInWaves) → height ≡ phase_of monopole_turn leg wave → None ≡ taken height
    → settled_value zero_monopole None ≡ cond (monopole_settles leg wave) (settled_value zero_monopole (monopole_row leg wave)) zero_monopole
none_value leg wave height h e = (unsettled leg wave height h e).2
