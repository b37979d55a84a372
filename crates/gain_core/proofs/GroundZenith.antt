-- Types 3 and 4 at elevation 0: -30 if the gain straight up is finite, else not a number. Assumes nothing.
use Rattle.std.specs.Prelude.{◌≡◌, ℕ, ◌*◌, ◌^◌, ◌<◌, Bool, true, false, cond, ◌⊎◌, ℤ, pos, Some}
use mathlib.Core.Path.{refl, sym, ap, ◌∙◌}
use mathlib.Core.Logic.{inl, inr}
use native.Mathlib.Omega.{arith}
use native.Mathlib.Nat.{mul-zero, mul-pos, zero-mul}
use lib.Dec.{ltb→lt}
use lib.Ieee.{Float, nan, inf, fin, binary32, fits, add, sub, mul, neg, up, down, round, of_int, to_signed, lt, le, eq}
use lib.Ieee.Fits.{down_pos}
use lib.Ieee.Scale.{finite}
use Rattle.single.specs.Single.{◌⊞◌, ◌⊟◌, ◌⊠◌, num}
use Rattle.single.proofs.Value.{round_to}
use Rattle.elementary.specs.Basic.{cut_toward}
use Rattle.elementary.specs.Trigonometric.{sine, cosine, in_range, turns, rest, reduced, sine_part, cosine_part, sine_at}
use Rattle.parameters.specs.declared.kind.Kind.{Kind}
use Rattle.parameters.specs.declared.kind.Kind.TheVariants as K
use Rattle.angles.specs.Angles.{elevation_of}
use Rattle.angles.specs.declared.angles.Elevation.{Elevation}
use Rattle.integrals.specs.Settled.{settled_value}
use Rattle.integrals.specs.declared.settled.Settled.{Settled}
use Rattle.finish.specs.Finish.{floor, efficiency_of, floored, ground_of}
use Rattle.antennas.specs.declared.antenna.Antenna.{Antenna}
use Rattle.rows.specs.declared.row.Row.{Row}
use Rattle.cells.specs.Cell.{zenith_gain, blend_of}
use Rattle.gain_core.specs.Core.{ground_from, refused_at}

abbrev horizon : Elevation
horizon = elevation_of (cosine (num 0 1)) (sine (num 0 1))

s_at_0 : horizon.s ≡ num 0 1
unfolding elevation_of sine in_range turns rest reduced sine_part cosine_part sine_at cut_toward to_signed of_int mul add sub neg round lt le eq
s_at_0 = refl

-- a finite number times 0 is a zero, and a zero plus -30 is -30
round_0 : (s : Bool) (c : ℕ) → 0 < c → round binary32 s 0 c ≡ fin s 0 (pos 0)
unfolding fits
round_0 true c h = round_to (fin true 0 (pos 0)) true 0 c 0 0 tt (refl, zero-mul c) h (omega arith) (ltb→lt 0 (2 ^ 277) tt) (sym (zero-mul c))
round_0 false c h = round_to (fin false 0 (pos 0)) false 0 c 0 0 tt (refl, zero-mul c) h (omega arith) (ltb→lt 0 (2 ^ 277) tt) (sym (zero-mul c))

times_0 : (s : Bool) (m : ℕ) (e : ℤ) → fin s m e ⊠ num 0 1 ≡ fin s 0 (pos 0)
unfolding mul round
times_0 true m e = ap (λ (k : ℕ). round binary32 true k (down e * 1)) (mul-zero (m * up e)) ∙ round_0 true (down e * 1) (mul-pos (down_pos e) (omega arith))
times_0 false m e = ap (λ (k : ℕ). round binary32 false k (down e * 1)) (mul-zero (m * up e)) ∙ round_0 false (down e * 1) (mul-pos (down_pos e) (omega arith))

zero_plus : (s : Bool) → fin s 0 (pos 0) ⊞ floor ⊠ (num 1 1 ⊟ num 0 1) ≡ floor
unfolding mul add sub neg round
zero_plus true = refl
zero_plus false = refl

blended : (x : Float) → x ⊠ num 0 1 ⊞ floor ⊠ (num 1 1 ⊟ num 0 1) ≡ cond (finite x) floor nan
unfolding mul add sub neg round
blended nan = refl
blended (inf s) = refl
blended (fin s m e) = ap (λ (y : Float). y ⊞ floor ⊠ (num 1 1 ⊟ num 0 1)) (times_0 s m e) ∙ zero_plus s

-- the gain on the ground of types 3 and 4, before it is blended
low : (kind : Kind) (height : Float) → (kind ≡ K.Dipole) ⊎ (kind ≡ K.Yagi) → (ground_of kind height).gain ≡ floor
unfolding ground_of floored efficiency_of add neg round le lt eq
low kind height t = elim t [ inl p ↦ rw p refl | inr p ↦ rw p refl ]

pub ground_zenith : (antenna : Antenna) (height : Float) (row : Settled Row) → (antenna.kind ≡ K.Dipole) ⊎ (antenna.kind ≡ K.Yagi)
    → (settled_value (refused_at height) (ground_from antenna horizon height (Some row))).gain ≡ cond (finite (zenith_gain row.value)) floor nan
unfolding settled_value blend_of
ground_zenith antenna height row t = rw (low antenna.kind height t, s_at_0) (blended (zenith_gain row.value))
