-- A count from a whole number, by whether it is one of a u32. Assumes nothing.
use mathlib.Core.Path.{◌≡◌, refl}
use Prim.Native.Nat.{ℕ, min, ◌^◌, ◌<◌}
use native.Mathlib.Omega.{arith}
use lib.IntN.{ℤ, pos, negsuc, nat_abs}
use lib.Signed.{mag}
use Rattle.std.specs.Int.{FitsUnsignedBits}
use Rattle.curtain.specs.Card.{count_of}

pub count_up : (z : ℤ) (most negative : ℕ) → FitsUnsignedBits 32 z → count_of z most negative ≡ min (nat_abs z) most
unfolding count_of
count_up (pos k) most negative h = refl
count_up (negsuc k) most negative h = absurd h

pub count_down : (z : ℤ) (most negative : ℕ) → mag z < 2 ^ 31 → (FitsUnsignedBits 32 z → ⊥) → count_of z most negative ≡ negative
unfolding count_of
count_down (pos k) most negative f h = absurd (h (omega arith))
count_down (negsuc k) most negative f h = refl
