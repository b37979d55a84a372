-- `clamp` and `min` as the definitions have them. Assumes nothing.
use Prim.Native.Nat.{ℕ, ◌+◌, ◌<◌, ◌≤◌, ◌^◌, min}
use mathlib.Core.Path.{◌≡◌, refl, ◌∙◌}
use native.Mathlib.Omega.{arith}
use lib.IntN.{ℤ, pos, negsuc, nat_abs}
use mir.Syntax.{w32}
use mir.Val.{to_z, of_z}
use mir.ValLaws.{to_z-of_z}
use Rattle.std.specs.Int.{int_max, int_min}
use Rattle.std.proofs.lemmas.Bool.Decides.{nat_tests}
use Rattle.antenna.specs.Places.{clamped, next_of}
use Rattle.antenna.proofs.Bounds.{clamped_within}

clamp_is : (z : ℤ) (most : ℕ) → 1 ≤ most → int_max (pos 1) (int_min z (pos most)) ≡ pos (clamped z most)
unfolding clamped
clamp_is (pos k) most h = grind (arith, nat_tests)
clamp_is (negsuc k) most h = refl

-- r as the machine casts it
pub clamped_is : (z r : ℤ) (most : ℕ) → 1 ≤ most → most < 2 ^ 31 → r ≡ int_max (pos 1) (int_min z (pos most))
    → nat_abs (to_z w32 (of_z w32 r)) ≡ clamped z most
clamped_is z r most low high e =
    let p = e ∙ clamp_is z most low in
    let l = (clamped_within z most low).1 in
    rw (p, to_z-of_z w32 (pos (clamped z most)) (record { sfits = omega (arith, l) })) refl

pub next_is : (n most : ℕ) → min (n + 1) most ≡ next_of n most
unfolding next_of
next_is n most = grind (arith, nat_tests)
