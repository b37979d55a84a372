-- The height that a row leaves: the type's own, and finite within the limits. Assumes nothing.
use mathlib.Core.Path.{◌≡◌, refl}
use mathlib.Core.Bool.{Bool, true, false, cond}
use Prim.Native.Nat.{ℕ, ◌*◌, ◌^◌, ◌≤◌}
use native.Mathlib.Omega.{arith}
use lib.Dec.{T, eqb, lit≤, eqb→eq}
use native.Mathlib.Nat.{mul-one}
use lib.Ieee.{Float, up, down, nan, inf, fin, lt, le, eq, neg, round}
use lib.Ieee.Fits.{and_r, down_pos}
use lib.Ieee.Scale.{finite}
use Rattle.single.specs.Single.{◌⊠◌, ◌⊘◌, num}
use Rattle.single.proofs.Magnitude.{Mag, or-le, neg_mag}
use Rattle.single.proofs.Bounded.{AtLeast, div_mag, div_least}
use Rattle.basic.proofs.WholePart.{absolute_mag}
use Rattle.elementary.specs.Basic.{absolute}
use Rattle.limits.specs.Tests.{outside}
use Rattle.limits.proofs.Outside.{within_mag}
use Rattle.parameters.specs.declared.kind.Kind.{Kind}
use Rattle.parameters.specs.declared.kind.Kind.TheVariants as K
use Rattle.std.specs.Prelude.{Option, Some, None}
use Rattle.lengths.specs.Length.{length_of, in_waves, phase_of, monopole_turn}
use Rattle.lengths.specs.declared.length.Length.TheVariants.{Metres, Wavelengths}
use Rattle.angles.specs.Angles.{wave_of}
use Rattle.patterns.specs.Pattern.{pattern_of}
use Rattle.rows.specs.Row.{height_for, row_from, row_of}
use Rattle.antennas.specs.declared.antenna.Antenna.{Antenna}
use Rattle.integrals.specs.Settled.{settled_map}
use Rattle.integrals.specs.declared.settled.Settled.{Settled}
use Rattle.patterns.specs.declared.pattern.Pattern.{Pattern}
use Rattle.rows.specs.declared.row.Row.{Row}

mag_finite : (b : ℕ) (x : Float) → Mag b x → T (finite x)
mag_finite b nan m = m
mag_finite b (inf s) m = m
mag_finite b (fin s m e) h = tt

-- ---- the wave of a MHz from 1 to 30 is at least 8 metres
mhz_mag : (fmc : Float) → T (le (num 1 1) fmc) → T (le fmc (num 30 1)) → Mag 30 fmc
unfolding le lt eq round
mhz_mag nan low high = absurd low
mhz_mag (inf true) low high = absurd low
mhz_mag (inf false) low high = absurd high
mhz_mag (fin true m e) low high =
    let n : 1 * down e ≡ 0 = eqb→eq (1 * down e) 0 (and_r (eqb (1 * down e) (m * up e * 1)) (eqb (1 * down e) 0) low) in
    absurd (let z : ◌≡◌ {A = ℕ} 0 1 = omega (arith, down_pos e) in omega arith)
mhz_mag (fin false m e) low high =
    let h : m * up e * 1 ≤ 30 * down e = or-le (m * up e * 1) (30 * down e) high in
    rw (mul-one (m * up e)) at h

wave_least : (fmc : Float) → Mag 30 fmc → AtLeast (2 ^ 3) (wave_of fmc)
unfolding wave_of round
wave_least fmc m = div_least (num 2997925 10000) fmc 299 30 3 refl (omega arith) (lit≤ tt) m (lit≤ tt)

-- ---- a length within the limits is finite in wavelengths
in_waves_lem : (v wave : Float) → Mag 1000 v → AtLeast (2 ^ 3) wave → T (finite (v ⊘ wave))
in_waves_lem v wave m w = mag_finite (2 ^ 7) (v ⊘ wave) (div_mag v wave 1000 (2 ^ 3) 7 (unfold round in refl) (lit≤ tt) m w (lit≤ tt))

metres_finite : (v wave : Float) → Mag 1000 v → AtLeast (2 ^ 3) wave → T (finite (phase_of monopole_turn (Metres v) wave).waves)
unfolding phase_of
metres_finite v wave m w = go (lt (num 0 1) v)
  where
    go : (b : Bool)
        → T (finite (cond b (record { phase = num 6283185 1000000 ⊠ v ⊘ wave; waves = v ⊘ wave }) (in_waves (num 6283185 1000000) (absolute v))).waves)
    go true = in_waves_lem v wave m w
    go false = mag_finite 1000 (absolute v) (absolute_mag v 1000 m)

length_finite : (v wave : Float) → Mag 1000 v → AtLeast (2 ^ 3) wave → T (finite (phase_of monopole_turn (length_of v) wave).waves)
unfolding length_of
length_finite v wave m w = go (lt v (num 0 1))
  where
    go : (b : Bool) → T (finite (phase_of monopole_turn (cond b (Wavelengths (neg v)) (Metres v)) wave).waves)
    go true = unfold phase_of in mag_finite 1000 (neg v) (neg_mag v 1000 m)
    go false = metres_finite v wave m w

pub height_finite : (kind : Kind) (v fmc : Float) → outside v ≡ false → T (le (num 1 1) fmc) → T (le fmc (num 30 1))
    → T (finite (height_for kind (length_of v) (wave_of fmc)))
unfolding height_for
height_finite kind v fmc o low high = go kind
  where
    own : T (finite (phase_of monopole_turn (length_of v) (wave_of fmc)).waves)
    own = length_finite v (wave_of fmc) (within_mag v o) (wave_least fmc (mhz_mag fmc low high))

    one : T (finite (num 1 1))
    one = unfold round in tt

    go : (kind : Kind) → T (finite (height_for kind (length_of v) (wave_of fmc)))
    go K.Rhombic = one
    go K.Monopole = own
    go K.Dipole = one
    go K.Yagi = one
    go K.LogPeriodic = own
    go K.Curtain = one
    go K.SlopingVee = one
    go K.InvertedL = one
    go K.SlopingRhombic = one
    go K.InterlacedRhombic = one
    go K.Other = one

-- ---- a settled row has its antenna's type and leaves the type's height
abbrev pub OfRow : (Row → Type 0) → Option (Settled Row) → Type 0
OfRow P (Some row) = P row.value
OfRow P None = Unit {0}

abbrev pub Own : Antenna → Float → Row → Type 0
Own antenna fmc row = (row.kind ≡ antenna.kind) × (row.x ≡ height_for antenna.kind antenna.leg (wave_of fmc))

pub row_own : (antenna : Antenna) (fmc : Float) → OfRow (Own antenna fmc) (row_of antenna fmc)
unfolding row_of
row_own antenna fmc = go (pattern_of antenna (wave_of fmc))
  where
    go : (p : Option (Settled Pattern)) → OfRow (Own antenna fmc) (settled_map (row_from antenna fmc) p)
    go (Some pattern) = (refl, refl)
    go None = tt
