-- The refusal is 0 exactly where none of the tests holds. Assumes nothing.
use Prim.Native.Nat.{◌<◌}
use mathlib.Core.Path.{◌≡◌, refl, subst}
use mathlib.Core.Bool.{Bool, true, false, ◌||◌, cond}
use mathlib.Core.List.{List, [], ◌∷◌}
use mathlib.Core.Logic.{◌↔◌}
use native.Mathlib.Omega.{arith}
use lib.Dec.{T}
use Rattle.limits.specs.Refusals.{Test, first_refusal}

abbrev pub any_holds : List Test → Bool
any_holds [] = false
any_holds (t ∷ ts) = t.holds || any_holds ts

-- no test that holds has the number 0
abbrev pub Numbered : List Test → Type 0
Numbered [] = Unit {0}
Numbered (t ∷ ts) = (t.holds ≡ true → 0 < t.number) × Numbered ts

pub zero_none : (ts : List Test) → Numbered ts → (first_refusal ts ≡ 0) ↔ (any_holds ts ≡ false)
unfolding first_refusal
zero_none [] n = (λ e. refl, λ e. refl)
zero_none (t ∷ ts) n = go t.holds n.0 (zero_none ts n.1)
  where
    go : (b : Bool) → (b ≡ true → 0 < t.number) → (first_refusal ts ≡ 0) ↔ (any_holds ts ≡ false)
        → (cond b t.number (first_refusal ts) ≡ 0) ↔ ((b || any_holds ts) ≡ false)
    go true some rest = (λ e. absurd (omega (arith, e, some refl)), λ e. absurd (subst T e tt))
    go false some rest = rest
