-- Document 01 section 4, types 3 and 4: what holds for a whole row. Definitions only.
use Rattle.std.specs.Prelude.{Bool, Float, Option}
use Rattle.single.specs.Single.{◌⊞◌, ◌⊟◌, ◌⊠◌, ◌⊘◌, num}
use Rattle.elementary.specs.Trigonometric.{cosine, tangent}
use Rattle.integrals.specs.declared.rational.Integrals.{Integrals}
use Rattle.integrals.specs.Settled.{settled_map}
use Rattle.integrals.specs.declared.settled.Settled.{Settled}
use Rattle.integrals.specs.Cin.{cin_of}
use Rattle.integrals.specs.Pair.{integral_pair, pair_settles}
use Rattle.dipoles.specs.declared.row.Dipole.{Dipole}

-- the 1994 rewrite divides by 1
abbrev pub sin2kl : Float
sin2kl = num 1 1

-- the Rust's closure `cot`
unfoldable pub cotangent : Float → Float
cotangent x = num 1 1 ⊘ tangent x

-- Euler's constant, as types 3 and 4 have it
abbrev pub euler : Float
euler = num 577 1000

-- xr, from the integrals at fac * 4 and at fac * 2
unfoldable pub xr_of : Float → Integrals → Integrals → Float
xr_of fac at2kl atkl =
    let g = cotangent fac in
    let cin_kl = cin_of euler (num 2 1 ⊠ fac) atkl.ci in
    let cin_2kl = cin_of euler (num 4 1 ⊠ fac) at2kl.ci in
    num 30 1 ⊠ ((num 1 1 ⊟ g ⊠ g) ⊠ cin_2kl ⊞ num 4 1 ⊠ g ⊠ g ⊠ cin_kl ⊞ num 2 1 ⊠ g ⊠ (at2kl.si ⊟ num 2 1 ⊠ atkl.si)) ⊘ sin2kl

abbrev pub dipole_of : Float → Float → Integrals × Integrals → Dipole
dipole_of fac hwave pair = record { fac = fac; cfac = cosine fac; scale = num 120 1 ⊘ xr_of fac pair.0 pair.1; hwave2 = num 2 1 ⊠ hwave }

unfoldable pub dipole_row : Float → Float → Option (Settled Dipole)
dipole_row fac hwave = settled_map (dipole_of fac hwave) (integral_pair (fac ⊠ num 4 1) (fac ⊠ num 2 1))

unfoldable pub dipole_settles : Float → Bool
dipole_settles fac = pair_settles (fac ⊠ num 4 1) (fac ⊠ num 2 1)

abbrev pub zero_dipole : Dipole
zero_dipole = record { fac = num 0 1; cfac = num 0 1; scale = num 0 1; hwave2 = num 0 1 }
