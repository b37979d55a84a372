-- A lookup is accepted exactly where none of its tests holds. Assumes nothing.
use Prim.Native.Nat.{ℕ}
use mathlib.Core.Path.{◌≡◌}
use mathlib.Core.Bool.{false}
use mathlib.Core.List.{List}
use mathlib.Core.Logic.{◌↔◌}
use native.Mathlib.Omega.{arith}
use lib.IntN.{ℤ}
use lib.Ieee.{Float}
use Rattle.limits.proofs.None.{any_holds, zero_none}
use Rattle.lookup_refusals.specs.LookupRefusals.{lookup_tests, lookup_refusal, card_tests, card_refusal}

pub zero_none_of_lookup : (t : List Float) (fmc delta : Float) → (lookup_refusal t fmc delta ≡ 0) ↔ (any_holds (lookup_tests t fmc delta) ≡ false)
unfolding lookup_refusal
zero_none_of_lookup t fmc delta = zero_none (lookup_tests t fmc delta) (λ h. omega arith, (λ h. omega arith, tt))

pub zero_none_of_card : (first last : ℤ) (verdict : ℕ) (t : List Float) (fmc delta : Float)
    → (card_refusal first last verdict t fmc delta ≡ 0) ↔ (any_holds (card_tests first last verdict t fmc delta) ≡ false)
unfolding card_refusal
zero_none_of_card first last verdict t fmc delta =
    zero_none (card_tests first last verdict t fmc delta) (λ h. omega arith, (λ h. omega arith, (λ h. omega arith, tt)))
