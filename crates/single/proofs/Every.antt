-- A test of all numbers below n, taken apart. Assumes nothing.
use mathlib.Core.Path.{sym, subst}
use mathlib.Core.Bool.{Bool}
use mathlib.Core.Logic.{inl, inr}
use Prim.Native.Nat.{ℕ, zero, suc, ◌<◌}
use native.Mathlib.Nat.{eq-or-lt_of_le, le_of_suc-le-suc, not-suc-le-zero}
use lib.Dec.{T}
use lib.Ieee.Fits.{and_l, and_r}
use Rattle.single.specs.Every.{every}

pub every_at : (p : ℕ → Bool) (n : ℕ) → T (every p n) → (k : ℕ) → k < n → T (p k)
unfolding every
every_at p zero t k h = absurd (not-suc-le-zero h)
every_at p (suc n) t k h =
    elim (eq-or-lt_of_le (le_of_suc-le-suc h)) [
      | inl e ↦ subst (λ (x : ℕ). T (p x)) (sym e) (and_l (p n) (every p n) t)
      | inr q ↦ every_at p n (and_r (p n) (every p n) t) k q
    ]
