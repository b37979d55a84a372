-- The loop that stores the gains above the ground, on plain variables. Assumes nothing.
use mathlib.Core.Path.{◌≡◌, refl, ap, ap₂, ◌∙◌}
use mathlib.Core.List.{List}
use Prim.Native.Nat.{ℕ, zero, suc, ◌+◌, ◌-◌, ◌≤◌}
use native.Mathlib.Omega.{arith}
use native.Mathlib.Nat.{not-suc-le-zero}
use lib.ListN.{set}
use lib.Ieee.{Float}
use Rattle.table.specs.Table.{gain_at}
use Rattle.deck.specs.Row.{stored_above}

pub stored_start : (gain : ℕ → Float) (m : ℕ) (t : List Float) → t ≡ stored_above gain m 0 t
unfolding stored_above
stored_start gain m t = refl

pub stored_step : (gain : ℕ → Float) (m : ℕ) (t₀ t : List Float) (d : ℕ) (v : Float) → 1 ≤ d → t ≡ stored_above gain m (d - 1) t₀ → v ≡ gain d
    → set t (gain_at m d) v ≡ stored_above gain m (d + 1 - 1) t₀
unfolding stored_above
stored_step gain m t₀ t zero v l s e = absurd (not-suc-le-zero l)
stored_step gain m t₀ t (suc n) v l s e =
    let this : suc n - 1 ≡ n = omega arith in
    let next : suc n + 1 - 1 ≡ suc n = omega arith in
    rw next (ap₂ (λ (l : List Float) (a : Float). set l (gain_at m (suc n)) a) (s ∙ ap (λ (k : ℕ). stored_above gain m k t₀) this) e)
