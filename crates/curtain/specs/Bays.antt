-- Document 01 section 4, curtain: the sum `sx` over the bays. Definitions only.
use Rattle.std.specs.Prelude.{ℕ, zero, suc, ◌+◌, ◌*◌, Float}
use Rattle.single.specs.Single.{◌⊞◌, ◌⊠◌, num, whole}
use Rattle.elementary.specs.Trigonometric.{cosine}

-- after n turns: turn i = n + 1 adds 2.0 * (fn_ * fac3 * fac4).cos(), fn_ = 2 * i - 1 + nep
unfoldable pub sx_of : Float → ℕ → ℕ → Float → Float → Float
sx_of ep nep zero fac3 fac4 = ep
sx_of ep nep (suc n) fac3 fac4 = sx_of ep nep n fac3 fac4 ⊞ num 2 1 ⊠ cosine (whole (2 * n + 1 + nep) ⊠ fac3 ⊠ fac4)
