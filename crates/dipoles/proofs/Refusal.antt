-- Refusal 11 arises in a row of types 3 and 4 where, and only where, one of its two integrals is unsettled. Assumes nothing.
use mathlib.Core.Path.{◌≡◌, ◌∙◌, refl}
use lib.Ieee.{Float}
use Rattle.std.specs.Prelude.{Option, None, cond}
use Rattle.single.specs.Answer.{IsAnswer}
use Rattle.integrals.specs.Settled.{settled_number, unsettled_number, settled_value}
use Rattle.integrals.specs.declared.settled.Settled.{Settled}
use Rattle.integrals.specs.Pair.{integral_pair}
use Rattle.integrals.specs.declared.rational.Integrals.{Integrals}
use Rattle.single.specs.Single.{◌⊠◌, num}
use Rattle.dipoles.specs.declared.row.Dipole.{Dipole}
use Rattle.integrals.proofs.Refusal.{map_number, pair_number, settled_answers}
use Rattle.dipoles.specs.Row.{dipole_row, dipole_settles, zero_dipole}

pub dipole_number_lem : (fac hwave : Float) → unsettled_number (dipole_row fac hwave) ≡ settled_number (dipole_settles fac)
unfolding dipole_row dipole_settles
dipole_number_lem fac hwave = map_number _ _ ∙ pair_number _ _

-- the integrals that a row takes, by its leg's fac
abbrev taken : Float → Option (Settled (Integrals × Integrals))
taken fac = integral_pair (fac ⊠ num 4 1) (fac ⊠ num 2 1)

-- where the integrals are unsettled, so is the row
unsettled : (fac hwave : Float) → None ≡ taken fac
    → IsAnswer unsettled_number (settled_value zero_dipole) zero_dipole 11 (dipole_row fac hwave) (dipole_settles fac) None
unfolding dipole_row
unsettled fac hwave e = settled_answers zero_dipole _ _ (dipole_number_lem fac hwave) None (rw (← e) refl)

pub none_answer : (fac hwave : Float) → None ≡ taken fac → None ≡ dipole_row fac hwave
none_answer fac hwave e = (unsettled fac hwave e).0

pub none_number : (fac hwave : Float) → None ≡ taken fac → unsettled_number {A = Settled Dipole} None ≡ cond (dipole_settles fac) 0 11
none_number fac hwave e = (unsettled fac hwave e).1

pub none_value : (fac hwave : Float) → None ≡ taken fac
    → settled_value zero_dipole None ≡ cond (dipole_settles fac) (settled_value zero_dipole (dipole_row fac hwave)) zero_dipole
none_value fac hwave e = (unsettled fac hwave e).2
