-- A cone value is accepted exactly where none of its tests holds. Assumes nothing.
use mathlib.Core.Path.{◌≡◌}
use mathlib.Core.Bool.{false}
use mathlib.Core.Logic.{◌↔◌}
use native.Mathlib.Omega.{arith}
use lib.Ieee.{Float}
use Rattle.limits.proofs.None.{any_holds, zero_none}
use Rattle.inverted_cone.specs.InvertedCone.{cone_tests, invcon_number}

pub zero_none_of_cone : (freq elev : Float) → (invcon_number freq elev ≡ 0) ↔ (any_holds (cone_tests freq elev) ≡ false)
unfolding invcon_number
zero_none_of_cone freq elev = zero_none (cone_tests freq elev) (λ h. omega arith, tt)
