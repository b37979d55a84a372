-- Refusal 11 arises in the work where, and only where, its row's pattern is unsettled (patterns/proofs/Unsettled.antt): above the ground,
-- and at it for types 3 and 4 alone. Assumes nothing.
use Rattle.std.specs.Prelude.{◌≡◌, Bool, true, false}
use mathlib.Core.Path.{refl, ◌∙◌}
use lib.Ieee.{Float, le}
use Rattle.single.specs.Single.{num}
use Rattle.single.specs.Answer.{IsAnswer}
use Rattle.std.specs.Prelude.{Option, Some, None}
use Rattle.integrals.specs.Settled.{settled_number, unsettled_number, settled_value}
use Rattle.integrals.proofs.Refusal.{settled_answers}
use Rattle.integrals.specs.declared.settled.Settled.{Settled}
use Rattle.angles.specs.Angles.{wave_of}
use Rattle.angles.specs.declared.angles.Elevation.{Elevation}
use Rattle.patterns.specs.Pattern.{pattern_settles}
use Rattle.antennas.specs.declared.antenna.Antenna.{Antenna}
use Rattle.rows.specs.declared.row.Row.{Row}
use Rattle.rows.proofs.Unsettled.{row_number_lem}
use Rattle.cells.specs.Cell.{blends_with_zenith}
use Rattle.gain_core.specs.Core.{above_from, above_ground, ground_from, at_ground, work_of, ground_settles, work_settles, refused_at}
use Rattle.gain_core.specs.declared.calls.Answer.{Answer}

of_row_above : (antenna : Antenna) (delta : Float) (e : Elevation) (r : Option (Settled Row))
    → unsettled_number (above_from antenna delta e r) ≡ unsettled_number r
unfolding unsettled_number
of_row_above antenna delta e (Some row) = refl
of_row_above antenna delta e None = refl

of_row_ground : (antenna : Antenna) (e : Elevation) (height : Float) (r : Option (Settled Row))
    → unsettled_number (ground_from antenna e height r) ≡ unsettled_number r
unfolding unsettled_number
of_row_ground antenna e height (Some row) = refl
of_row_ground antenna e height None = refl

module _ (antenna : Antenna) (fmc : Float) (e : Elevation) where
  pub above_number : (delta : Float) → unsettled_number (above_ground antenna fmc delta e) ≡ settled_number (pattern_settles antenna (wave_of fmc))
  unfolding above_ground
  above_number delta = of_row_above antenna delta e _ ∙ row_number_lem antenna fmc

  pub ground_number : (height : Float) → unsettled_number (at_ground antenna fmc e height) ≡ settled_number (ground_settles antenna fmc)
  unfolding at_ground ground_settles unsettled_number
  ground_number height = go (blends_with_zenith antenna.kind) refl
    where
      go : (b : Bool) → blends_with_zenith antenna.kind ≡ b
          → unsettled_number (at_ground antenna fmc e height) ≡ settled_number (ground_settles antenna fmc)
      go true u = rw u (of_row_ground antenna e height _ ∙ row_number_lem antenna fmc)
      go false u = rw u refl

  pub work_number_lem : (delta height : Float) → unsettled_number (work_of antenna fmc delta e height) ≡ settled_number (work_settles antenna fmc delta)
  unfolding work_of work_settles
  work_number_lem delta height = go (le delta (num 0 1)) refl
    where
      go : (b : Bool) → le delta (num 0 1) ≡ b
          → unsettled_number (work_of antenna fmc delta e height) ≡ settled_number (work_settles antenna fmc delta)
      go true t = rw t (ground_number height)
      go false t = rw t (above_number delta)

  pub all_answers : (delta height : Float) (r : Option (Settled Answer)) → r ≡ work_of antenna fmc delta e height
      → IsAnswer unsettled_number (settled_value (refused_at height)) (refused_at height) 11 (work_of antenna fmc delta e height)
      (work_settles antenna fmc delta) r
  all_answers delta height =
      settled_answers (refused_at height) (work_of antenna fmc delta e height) (work_settles antenna fmc delta) (work_number_lem delta height)
