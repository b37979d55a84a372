-- Differences of natural numbers as integers, and binary digits. Assumes nothing.
use mathlib.Core.Path.{◌≡◌, refl, sym, ap, subst, ◌∙◌}
use mathlib.Core.Logic.{inl, inr}
use Prim.Native.Nat.{ℕ, zero, suc, ◌+◌, ◌-◌, ◌*◌, ◌^◌, ◌≤◌, ◌<◌}
use native.Mathlib.Omega.{arith}
use native.Mathlib.Nat.{mul-le-mul, le_refl, le_trans, le_antisymm, lt_of_not-le, not-le_of_lt, suc-add}
use lib.IntN.{pos, negsuc}
use lib.Pow.{pow-add, pow_mono, shl_lt}
use lib.Ieee.{minus, size}
use lib.Ieee.Digits.{size-lt, size-le, size_reaches}
use Rattle.single.proofs.Compare.{le-or-lt}
use borrow.Author.Tests.{le-leb, lt-leb}

-- ---- differences
pub minus_shift : (a b c : ℕ) → minus (a + c) (b + c) ≡ minus a b
minus_shift a b c =
    elim (le-or-lt b a) [
      | inl h ↦
          let h' : b + c ≤ a + c = omega arith in
          let e : a + c - (b + c) ≡ a - b = omega arith in
          simp (le-leb b a h, le-leb (b + c) (a + c) h') (ap pos e)
      | inr h ↦
          let h' : a + c < b + c = omega arith in
          let e : b + c - suc (a + c) ≡ b - suc a = omega arith in
          simp (lt-leb b a h, lt-leb (b + c) (a + c) h') (ap negsuc e)
    ]

-- ---- binary digits
pub size_is : (n d : ℕ) → 2 ^ d ≤ n → n < 2 ^ suc d → size n ≡ suc d
size_is n d l h =
    let u : size n ≤ suc d = size-le n (suc d) h in
    le_antisymm u (lt_of_not-le (λ (g : size n ≤ d). not-le_of_lt (size-lt n) (le_trans (pow_mono g) l)))

-- how many digits a number above 0 has, and the powers of two that it lies between
pub span : (n : ℕ) → 0 < n → (k : ℕ) × (size n ≡ suc k) × (2 ^ k ≤ n) × (n < 2 ^ suc k)
span n P = go (size n) refl
  where
    go : (s : ℕ) → size n ≡ s → (k : ℕ) × (size n ≡ suc k) × (2 ^ k ≤ n) × (n < 2 ^ suc k)
    go zero e = absurd (let z : n < 1 = subst (λ (x : ℕ). n < 2 ^ x) e (size-lt n) in omega arith)
    go (suc k) e = (k, e, size_reaches n k (let z : k < size n = omega arith in z), subst (λ (x : ℕ). n < 2 ^ x) e (size-lt n))

pub size_shift : (n k : ℕ) → 0 < n → size (n * 2 ^ k) ≡ size n + k
size_shift n k N =
    let s = span n N in
    let d = s.0 in
    size_is (n * 2 ^ k) (d + k) (subst (λ (x : ℕ). x ≤ n * 2 ^ k) (sym (pow-add 2 d k)) (mul-le-mul s.2 (le_refl (2 ^ k)))) (subst (λ (x : ℕ). n * 2 ^ k < 2 ^ x) (suc-add d k) (shl_lt (suc d) k s.3))
    ∙ (let z : suc (d + k) ≡ size n + k = omega (arith, s.1) in z)
