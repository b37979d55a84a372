-- Document 01 section 4: types 2, 5 and 8's radiation resistance `ra`. Definitions only.
use Rattle.std.specs.Prelude.{Float, Option}
use Rattle.std.specs.Float.Ieee.{neg}
use Rattle.single.specs.Single.{◌⊞◌, ◌⊟◌, ◌⊠◌, num}
use Rattle.elementary.specs.Trigonometric.{sine, cosine}
use Rattle.integrals.specs.declared.rational.Integrals.{Integrals}
use Rattle.integrals.specs.Cin.{cin_of}
use Rattle.integrals.specs.Pair.{integral_pair}
use Rattle.integrals.specs.Settled.{settled_map}
use Rattle.integrals.specs.declared.settled.Settled.{Settled}

-- Euler's constant, as types 2, 5 and 8 have it
abbrev pub euler : Float
euler = num 577215 1000000

-- of the phases d and z and their integrals: the Rust has w2, w3 of d and w, w1 of z
unfoldable pub resistance_from : Float → Float → Integrals → Integrals → Float
resistance_from d z dw zw =
    num 30 1 ⊠ (
    neg (num 5 10) ⊠ cosine d ⊠ cin_of euler z zw.ci ⊞ (num 1 1 ⊞ cosine d) ⊠ cin_of euler d dw.ci
    ⊞ sine d ⊠ (num 5 10 ⊠ zw.si ⊟ dw.si))

unfoldable pub resistance_of : Float → Float → Option (Settled Float)
resistance_of d z = settled_map (λ pair. resistance_from d z pair.0 pair.1) (integral_pair d z)
