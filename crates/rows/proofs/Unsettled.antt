-- Refusal 11 arises in a row where, and only where, its pattern is unsettled. Assumes nothing.
use mathlib.Core.Path.{◌≡◌, ◌∙◌, refl}
use lib.Ieee.{Float}
use Rattle.std.specs.Prelude.{Option, None, cond}
use Rattle.single.specs.Answer.{IsAnswer}
use Rattle.integrals.specs.Settled.{settled_number, unsettled_number, settled_value}
use Rattle.integrals.specs.declared.settled.Settled.{Settled}
use Rattle.integrals.proofs.Refusal.{map_number, settled_answers}
use Rattle.angles.specs.Angles.{wave_of}
use Rattle.patterns.specs.Pattern.{pattern_of, pattern_settles}
use Rattle.antennas.specs.declared.antenna.Antenna.{Antenna}
use Rattle.patterns.proofs.Unsettled.{pattern_number_lem}
use Rattle.rows.specs.Row.{row_of, zero_row}
use Rattle.rows.specs.declared.row.Row.{Row}

pub row_number_lem : (antenna : Antenna) (fmc : Float) → unsettled_number (row_of antenna fmc) ≡ settled_number (pattern_settles antenna (wave_of fmc))
unfolding row_of
row_number_lem antenna fmc = map_number _ _ ∙ pattern_number_lem antenna (wave_of fmc)

pub row_answers : (antenna : Antenna) (fmc : Float) (r : Option (Settled Row)) → r ≡ row_of antenna fmc
    → IsAnswer unsettled_number (settled_value zero_row) zero_row 11 (row_of antenna fmc) (pattern_settles antenna (wave_of fmc)) r
row_answers antenna fmc = settled_answers zero_row (row_of antenna fmc) (pattern_settles antenna (wave_of fmc)) (row_number_lem antenna fmc)

-- where its pattern is unsettled, it is unsettled
unsettled : (antenna : Antenna) (fmc wave : Float) → wave ≡ wave_of fmc → None ≡ pattern_of antenna wave
    → IsAnswer unsettled_number (settled_value zero_row) zero_row 11 (row_of antenna fmc) (pattern_settles antenna (wave_of fmc)) None
unfolding row_of
unsettled antenna fmc wave w e = row_answers antenna fmc None (rw (← w, ← e) refl)

pub none_answer : (antenna : Antenna) (fmc wave : Float) → wave ≡ wave_of fmc → None ≡ pattern_of antenna wave → None ≡ row_of antenna fmc
none_answer antenna fmc wave w e = (unsettled antenna fmc wave w e).0

pub none_number : (antenna : Antenna) (fmc wave : Float) → wave ≡ wave_of fmc → None ≡ pattern_of antenna wave
    → unsettled_number {A = Settled Row} None ≡ cond (pattern_settles antenna (wave_of fmc)) 0 11
none_number antenna fmc wave w e = (unsettled antenna fmc wave w e).1

pub none_value : (antenna : Antenna) (fmc wave : Float) → wave ≡ wave_of fmc → None ≡ pattern_of antenna wave
    → settled_value zero_row None ≡ cond (pattern_settles antenna (wave_of fmc)) (settled_value zero_row (row_of antenna fmc)) zero_row
none_value antenna fmc wave w e = (unsettled antenna fmc wave w e).2
