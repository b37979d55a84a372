-- The MHz and the degrees of a lookup within the limits are small, and the MHz are cut to a number that a cast to f32 keeps. Assumes nothing.
use Prim.Native.Nat.{ℕ, ◌^◌, ◌≤◌}
use mathlib.Core.Path.{◌≡◌, refl, sym, subst}
use mathlib.Core.Bool.{false}
use native.Mathlib.Nat.{le_trans, mul-le-mul, le_refl}
use lib.Dec.{T, lit≤}
use lib.IntN.{ℤ}
use lib.Ieee.{Float, nan, inf, fin, binary32, down, lt, round, of_bits, in_float}
use Rattle.single.specs.Single.{◌⊞◌, ◌⊠◌, num}
use Rattle.single.proofs.Magnitude.{Mag, mul_mag, add_mag}
use Rattle.elementary.specs.Basic.{cut_toward}
use Rattle.basic.specs.WholePart.{whole_part}
use Rattle.basic.proofs.WholePart.{cut_parts, whole_below, signed_float}
use Rattle.limits.specs.Tests.{outside}
use Rattle.limits.proofs.Outside as L
use Rattle.antenna.specs.Places.{r2d}

wider : (k : ℕ) → k ≤ 2 ^ 21 → (x : Float) → Mag k x → Mag (2 ^ 21) x
wider k l nan h = h
wider k l (inf s) h = h
wider k l (fin s m e) h = le_trans h (mul-le-mul l (le_refl (down e)))

pub within_mag : (x : Float) → outside x ≡ false → Mag (2 ^ 21) x
within_mag x h = wider 1000 (lit≤ tt) x (L.within_mag x h)

pub degrees_mag : (delta : Float) → outside delta ≡ false → Mag (2 ^ 21) (delta ⊠ r2d ⊞ num 1 1)
unfolding round
degrees_mag delta h =
    let degrees = mul_mag delta r2d 1000 64 16 refl (L.within_mag delta h) (lit≤ tt) (lit≤ tt) in
    wider (2 ^ 17) (lit≤ tt) _ (add_mag (delta ⊠ r2d) (num 1 1) (2 ^ 16) 1 17 refl degrees (lit≤ tt) (lit≤ tt))

pub cut_kept : (x : Float) → outside x ≡ false → T (in_float binary32 (cut_toward x))
cut_kept x h =
    let m : Mag (2 ^ 21) x = within_mag x h in
    subst (λ (z : ℤ). T (in_float binary32 z)) (sym (cut_parts x m)) (signed_float (lt x (of_bits binary32 0)) (whole_part x) (whole_below x (2 ^ 21) m))
