-- Document 01 section 4: types 2 and 5, label 351 of `iongain2`. Definitions only.
use Rattle.std.specs.Prelude.{Bool, cond, Float, Option}
use Rattle.std.specs.Float.Ieee.{eq, lt}
use Rattle.single.specs.Single.{◌⊟◌, ◌⊠◌, ◌⊘◌, num}
use Rattle.elementary.specs.Basic.{square}
use Rattle.elementary.specs.Trigonometric.{sine, cosine}
use Rattle.elementary.specs.Arctangent.{arctangent}
use Rattle.lengths.specs.Length.{leg_of, phase_of, monopole_turn}
use Rattle.lengths.specs.declared.length.Length.{Length}
use Rattle.reflection.specs.Ground.{image_power}
use Rattle.angles.specs.declared.angles.Elevation.{Elevation}
use Rattle.reflection.specs.declared.ground.Ground.{Ground}
use Rattle.integrals.specs.Pair.{pair_settles}
use Rattle.resistance.specs.Resistance.{resistance_of}
use Rattle.integrals.specs.Settled.{settled_map}
use Rattle.integrals.specs.declared.settled.Settled.{Settled}
use Rattle.verticals.specs.declared.monopole.Monopole.{Monopole}

-- RINTW, the radiation resistance at 0.2 wavelengths
abbrev pub rintw : Float
rintw = num 1806 100

-- the radiation resistance, with the rule for legs shorter than 0.2 wavelengths. el1 is the leg's, not x
unfoldable pub short_resistance : Float → Float → Float
short_resistance el1 ra = cond (lt el1 (num 2 10)) (num 400 1 ⊠ el1 ⊠ el1 ⊠ rintw ⊘ num 16 1) ra

-- 6.283 here, not 6.2832
abbrev pub monopole_from : Float → Float → Float → Monopole
monopole_from el1 x ra =
    let hwave = num 6283 1000 ⊠ x in
    record { x = x; hwave = hwave; chwave = cosine hwave; shwave = sine hwave; ra = short_resistance el1 ra }

-- what a row takes: d = 2 a and z = 2 d
unfoldable pub monopole_row : Length → Float → Option (Settled Monopole)
monopole_row leg wave =
    let w = phase_of monopole_turn leg wave in
    let d = num 2 1 ⊠ w.phase in
    settled_map (monopole_from (leg_of leg wave).el1 w.waves) (resistance_of d (num 2 1 ⊠ d))

unfoldable pub monopole_settles : Length → Float → Bool
monopole_settles leg wave = let d = num 2 1 ⊠ (phase_of monopole_turn leg wave).phase in pair_settles d (num 2 1 ⊠ d)

abbrev pub zero_monopole : Monopole
zero_monopole = record { x = num 0 1; hwave = num 0 1; chwave = num 0 1; shwave = num 0 1; ra = num 0 1 }

-- `denom`
unfoldable pub not_zero : Float → Float
not_zero v = cond (eq v (num 0 1)) (num 1 100000000) v

-- `rain`
unfoldable pub monopole_rain : Monopole → Elevation → Ground → Float
monopole_rain row elevation earth =
    let q = elevation.q in
    let t = elevation.t in
    let hwave = row.hwave in
    let top = cosine (hwave ⊠ q) ⊟ row.chwave in
    let bprim = arctangent ((sine (hwave ⊠ q) ⊟ q ⊠ row.shwave) ⊘ not_zero top) in
    num 30 1 ⊠ (
    square (top ⊘ (t ⊠ cosine bprim))
    ⊠ image_power earth.cv (earth.psiv ⊟ num 2 1 ⊠ bprim))
    ⊘ row.ra
