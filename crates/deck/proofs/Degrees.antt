-- The elevations of a table's columns: 0 degrees is the ground, 1 to 90 degrees are above it. The MHz of its rows are from 1 to 30. Assumes nothing.
use mathlib.Core.Path.{◌≡◌}
use mathlib.Core.Bool.{Bool, false, not, ◌&&◌}
use Prim.Native.Nat.{ℕ, suc, ◌<◌}
use lib.Dec.{T}
use lib.Ieee.{of_int, mul, le, lt, eq, round}
use lib.Ieee.Bits.{is_false}
use lib.Ieee.Fits.{and_l, and_r}
use Rattle.single.specs.Single.{num, whole}
use Rattle.single.specs.Every.{every}
use Rattle.single.proofs.Every.{every_at}
use Rattle.elementary.specs.Basic.{absolute}
use Rattle.angles.specs.Angles.{radians_of}
use Rattle.limits.specs.Tests.{outside}
use Rattle.deck.specs.Columns.{elevation_at}

not_at_ground : ℕ → Bool
not_at_ground d = not (le (elevation_at (suc d)) (num 0 1))

pub elevation_not_at_ground : (d : ℕ) → d < 90 → T (not (le (elevation_at (suc d)) (num 0 1)))
unfolding every not_at_ground radians_of mul of_int le lt eq round
elevation_not_at_ground d h = every_at not_at_ground 90 tt d h

pub elevation_ground : T (le (elevation_at 0) (num 0 1))
unfolding radians_of mul of_int le lt eq round
elevation_ground = tt

-- ---- the MHz of the row m + 1
in_range : ℕ → Bool
in_range m = le (num 1 1) (whole (suc m)) && le (whole (suc m)) (num 30 1)

pub mhz_in_range : (m : ℕ) → m < 30 → T (le (num 1 1) (whole (suc m))) × T (le (whole (suc m)) (num 30 1))
unfolding every in_range of_int le lt eq round
mhz_in_range m h =
    let t = every_at in_range 30 tt m h in
    let x = whole (suc m) in
    (and_l (le (num 1 1) x) (le x (num 30 1)) t, and_r (le (num 1 1) x) (le x (num 30 1)) t)

-- ---- neither is over 1,000: refusal 2
elevation_within : ℕ → Bool
elevation_within d = not (outside (elevation_at d))

pub elevation_within_lem : (d : ℕ) → d < 91 → outside (elevation_at d) ≡ false
unfolding every elevation_within outside absolute radians_of mul of_int le lt eq round
elevation_within_lem d h = is_false (outside (elevation_at d)) (every_at elevation_within 91 tt d h)

mhz_within : ℕ → Bool
mhz_within m = not (outside (whole m))

pub mhz_within_lem : (m : ℕ) → m < 31 → outside (whole m) ≡ false
unfolding every mhz_within outside absolute of_int le lt eq round
mhz_within_lem m h = is_false (outside (whole m)) (every_at mhz_within 31 tt m h)
