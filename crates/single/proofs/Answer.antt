-- An answer of the definition's number has its values: those of an answer not numbered 0 are zeros. Assumes nothing.
use Prim.Native.Nat.{ℕ, ◌<◌}
use mathlib.Core.Path.{◌≡◌, refl, sym, ap, ◌∙◌}
use mathlib.Core.Bool.{Bool, true, false, cond}
use mathlib.Core.Logic.{◌⊎◌, inl, inr}
use native.Mathlib.Omega.{arith}
use Rattle.single.specs.Answer.{IsAnswer}

pub answers : {A B : Type 0} (number : A → ℕ) (values : A → B) (zeros : B) (refusal : ℕ) → 0 < refusal
    → ((a : A) → (number a ≡ 0) ⊎ (values a ≡ zeros))
    → (whole : A) (accepted : Bool) → number whole ≡ cond accepted 0 refusal
    → (r : A) → r ≡ whole → IsAnswer number values zeros refusal whole accepted r
answers number values zeros refusal positive cases whole accepted n r e = (e, ap number e ∙ n, ap values e ∙ go accepted n (cases whole))
  where
    go : (b : Bool) → number whole ≡ cond b 0 refusal → (number whole ≡ 0) ⊎ (values whole ≡ zeros) → values whole ≡ cond b (values whole) zeros
    go true n z = refl
    go false n (inl p) = absurd (let q : 0 ≡ refusal = sym p ∙ n in omega (arith, positive))
    go false n (inr z) = z
