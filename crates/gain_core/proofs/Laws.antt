-- Laws of the gain call that a deck rests on: what the ground gives, what depends on the carried height, the height left, the floor. Assumes nothing.
use Rattle.std.specs.Prelude.{◌≡◌, ℕ, true, false, ◌||◌, eqb, T, ◌⊎◌, Option, Some, None}
use mathlib.Core.Path.{refl, sym, ap, ◌∙◌}
use mathlib.Core.Bool.{true≢false}
use native.Mathlib.Omega.{arith}
use lib.Ieee.{Float, nan, lt, le}
use Rattle.std.proofs.lemmas.Bool.Decides.{nat_tests}
use Rattle.single.specs.Single.{◌⊞◌, num}
use Rattle.parameters.specs.Kind.{number_of, is_kind}
use Rattle.parameters.specs.declared.kind.Kind.{Kind}
use Rattle.parameters.specs.declared.kind.Kind.TheVariants as K
use Rattle.lengths.specs.declared.length.Length.{Length}
use Rattle.angles.specs.Angles.{wave_of}
use Rattle.angles.specs.declared.angles.Elevation.{Elevation}
use Rattle.angles.specs.declared.angles.Azimuth.{Azimuth}
use Rattle.finish.specs.Finish.{floor, efficiency_of, ground_of}
use Rattle.finish.proofs.Laws.{ground_gain_lem, ground_same_lem, floor_rule}
use Rattle.rows.specs.Row.{height_for, row_of}
use Rattle.antennas.specs.declared.antenna.Antenna.{Antenna}
use Rattle.patterns.specs.declared.pattern.Pattern.{Pattern}
use Rattle.patterns.specs.declared.pattern.Pattern.TheVariants as P
use Rattle.rows.specs.declared.row.Row.{Row}
use Rattle.integrals.specs.Settled.{at_once, unsettled_number}
use Rattle.integrals.specs.declared.settled.Settled.{Settled}
use Rattle.rows.proofs.Height.{Own, OfRow, row_own}
use Rattle.cells.proofs.Blends.{blends_kind}
use Rattle.cells.specs.Cell.{blends_with_zenith, cell_by, cell_of, cell_gain, power_cell, curtain_cell}
use Rattle.gain_core.specs.Core.{above_from, above_ground, ground_from, at_ground, work_of}
use Rattle.gain_core.specs.declared.calls.Answer.{Answer}
use Rattle.gain_core.proofs.Unsettled.{work_number_lem}

-- of a call whose series settle
abbrev pub OfCall : (Answer → Type 0) → Option (Settled Answer) → Type 0
OfCall Q (Some call) = Q call.value
OfCall Q None = Unit {0}

-- what holds of the work on every row that is the antenna's own holds of the work on its row
from_row : (antenna : Antenna) (fmc : Float) (work : Option (Settled Row) → Option (Settled Answer)) (Q : Answer → Type 0)
    → ((row : Settled Row) → Own antenna fmc row.value → OfCall Q (work (Some row))) → OfCall Q (work None) → OfCall Q (work (row_of antenna fmc))
from_row antenna fmc work Q settled unsettled = go (row_of antenna fmc) (row_own antenna fmc)
  where
    go : (r : Option (Settled Row)) → OfRow (Own antenna fmc) r → OfCall Q (work r)
    go (Some row) own = settled row own
    go None own = unsettled

-- ---- above the ground nothing depends on the carried height
pub above : (antenna : Antenna) (fmc delta : Float) (e : Elevation) (height : Float) → le delta (num 0 1) ≡ false
    → work_of antenna fmc delta e height ≡ above_ground antenna fmc delta e
unfolding work_of
above antenna fmc delta e height t = rw t refl

pub below : (antenna : Antenna) (fmc delta : Float) (e : Elevation) (height : Float) → le delta (num 0 1) ≡ true
    → work_of antenna fmc delta e height ≡ at_ground antenna fmc e height
unfolding work_of
below antenna fmc delta e height t = rw t refl

-- ---- the height left: above the ground, and at the ground by types 3 and 4, it is the type's own; else it stays
pub left_above : (antenna : Antenna) (fmc delta : Float) (e : Elevation)
    → OfCall (λ call. call.height ≡ height_for antenna.kind antenna.leg (wave_of fmc)) (above_ground antenna fmc delta e)
unfolding above_ground
left_above antenna fmc delta e = from_row antenna fmc (above_from antenna delta e) _ (λ row own. own.1) tt

-- ---- the ground outside types 3 and 4: -30 plus the type's efficiency at the carried height, which stays
pub ground_value : (antenna : Antenna) (fmc : Float) (e : Elevation) (height : Float) → blends_with_zenith antenna.kind ≡ false
    → at_ground antenna fmc e height
    ≡ Some
    (at_once
    (record {
      gain = floor ⊞ efficiency_of antenna.kind height (num 0 1);
      efficiency = efficiency_of antenna.kind height (num 0 1);
      height = height;
    }))
unfolding at_ground ground_of
ground_value antenna fmc e height u = rw (u, ground_gain_lem antenna.kind height) refl

-- ---- types 3 and 4 are not 2 or 5: at the ground they depend on no height, and leave 1
not_two_or_five : (n : ℕ) → (eqb n 3 || eqb n 4) ≡ true → (eqb n 2 || eqb n 5) ≡ false
not_two_or_five n t = grind (arith, nat_tests)

other_types : (kind : Kind) → blends_with_zenith kind ≡ true → (is_kind kind 2 || is_kind kind 5) ≡ false
other_types kind t = not_two_or_five (number_of kind) (sym (blends_kind kind) ∙ t)

zenith_own : (kind : Kind) (leg : Length) (wave : Float) → blends_with_zenith kind ≡ true → height_for kind leg wave ≡ num 1 1
unfolding blends_with_zenith height_for
zenith_own K.Rhombic leg wave t = refl
zenith_own K.Monopole leg wave t = absurd (true≢false (sym t))
zenith_own K.Dipole leg wave t = refl
zenith_own K.Yagi leg wave t = refl
zenith_own K.LogPeriodic leg wave t = absurd (true≢false (sym t))
zenith_own K.Curtain leg wave t = refl
zenith_own K.SlopingVee leg wave t = refl
zenith_own K.InvertedL leg wave t = refl
zenith_own K.SlopingRhombic leg wave t = refl
zenith_own K.InterlacedRhombic leg wave t = refl
zenith_own K.Other leg wave t = refl

pub zenith_left : (antenna : Antenna) (fmc : Float) → blends_with_zenith antenna.kind ≡ true
    → height_for antenna.kind antenna.leg (wave_of fmc) ≡ num 1 1
zenith_left antenna fmc u = zenith_own antenna.kind antenna.leg (wave_of fmc) u

pub zenith_ground_left : (antenna : Antenna) (fmc : Float) (e : Elevation) (height : Float) → blends_with_zenith antenna.kind ≡ true
    → OfCall (λ call. call.height ≡ num 1 1) (at_ground antenna fmc e height)
unfolding at_ground
zenith_ground_left antenna fmc e height u = rw u (from_row antenna fmc (ground_from antenna e height) _ (λ row own. own.1 ∙ zenith_left antenna fmc u) tt)

pub zenith_ground_same : (antenna : Antenna) (fmc : Float) (e : Elevation) (h h' : Float) → blends_with_zenith antenna.kind ≡ true
    → at_ground antenna fmc e h ≡ at_ground antenna fmc e h'
unfolding at_ground
zenith_ground_same antenna fmc e h h' u = rw u (go (row_of antenna fmc))
  where
    go : (r : Option (Settled Row)) → ground_from antenna e h r ≡ ground_from antenna e h' r
    go (Some row) = rw (ground_same_lem antenna.kind h h' (other_types antenna.kind u)) refl
    go None = refl

-- ---- whether 11 arises does not depend on the carried height
pub number_same : (antenna : Antenna) (fmc delta : Float) (e : Elevation) (h h' : Float)
    → unsettled_number (work_of antenna fmc delta e h) ≡ unsettled_number (work_of antenna fmc delta e h')
number_same antenna fmc delta e h h' = work_number_lem antenna fmc e delta h ∙ sym (work_number_lem antenna fmc e delta h')

-- ---- outside types 2, 3 and 4 a gain that is a number is above -30, or is -30 plus the call's own efficiency
abbrev pub AboveFloor : Float → Float → Type 0
AboveFloor gain efficiency = (gain ≡ nan) ⊎ (T (lt floor gain) ⊎ (gain ≡ floor ⊞ efficiency))

cell_floor : (p : Pattern) (row : Row) (azimuth : Azimuth) (delta : Float) (e : Elevation) → is_kind row.kind 2 ≡ false
    → AboveFloor (cell_by p row azimuth delta e) row.eff
unfolding power_cell curtain_cell
cell_floor (P.Rhombic legs) row azimuth delta e t = floor_rule row.kind _ row.eff row.sok t
cell_floor (P.Interlaced legs offset) row azimuth delta e t = floor_rule row.kind _ row.eff row.sok t
cell_floor (P.Vee slope) row azimuth delta e t = floor_rule row.kind _ row.eff row.sok t
cell_floor (P.SlopingRhombic slope) row azimuth delta e t = floor_rule row.kind _ row.eff row.sok t
cell_floor (P.Curtain card spacings) row azimuth delta e t = floor_rule row.kind _ row.eff _ t
cell_floor (P.Wire dipole) row azimuth delta e t = floor_rule row.kind _ row.eff row.sok t
cell_floor (P.Vertical monopole) row azimuth delta e t = floor_rule row.kind _ row.eff row.sok t
cell_floor (P.Inverted l) row azimuth delta e t = floor_rule row.kind _ row.eff row.sok t
cell_floor P.Other row azimuth delta e t = floor_rule row.kind _ row.eff row.sok t

pub floor_above : (antenna : Antenna) (fmc delta : Float) (e : Elevation) → is_kind antenna.kind 2 ≡ false → blends_with_zenith antenna.kind ≡ false
    → OfCall (λ call. AboveFloor call.gain call.efficiency) (above_ground antenna fmc delta e)
unfolding above_ground cell_gain cell_of
floor_above antenna fmc delta e t u =
    from_row antenna fmc (above_from antenna delta e) _
    (λ row own.
    let not_2 = ap (λ (k : Kind). is_kind k 2) own.0 ∙ t in
    rw (ap blends_with_zenith own.0 ∙ u) (cell_floor row.value.pattern row.value antenna.azimuth delta e not_2))
    tt
