-- Which of two numbers is larger, what `compare` says, and `nearest` by it. Assumes nothing.
use mathlib.Core.Path.{◌≡◌, refl, subst}
use mathlib.Core.Bool.{Bool, true, false, not}
use mathlib.Core.Logic.{◌⊎◌, inl, inr}
use Prim.Native.Nat.{ℕ, ◌+◌, ◌%◌, ◌≤◌, ◌<◌, compare, Ordering}
use native.Mathlib.Nat.{not-le_of_lt}
use native.Mathlib.Omega.{arith}
use lib.Dec.{T, leb, leb→le, nleb→lt, eqb→eq, eqb_refl, is_le, compare_is_eq, eqb}
use lib.Arith.{lt_of_le-ne}
use lib.Ieee.{nearest}

pub le-or-lt : (a b : ℕ) → (a ≤ b) ⊎ (b < a)
le-or-lt a b = go (leb a b) (leb→le a b) (nleb→lt a b)
  where
    go : (t : Bool) → (T t → a ≤ b) → (T (not t) → b < a) → (a ≤ b) ⊎ (b < a)
    go true f g = inl (f tt)
    go false f g = inr (g tt)

abbrev pub Cmp : Ordering → ℕ → ℕ → Type 0
Cmp Ordering.lt a b = a < b
Cmp Ordering.eq a b = a ≡ b
Cmp Ordering.gt a b = b < a

pub cmp : (a b : ℕ) → Cmp (compare a b) a b
cmp a b = go (compare a b) (leb→le a b) (nleb→lt a b) (eqb→eq a b) (λ (e : a ≡ b). subst (λ (x : ℕ). T (eqb a x)) e (eqb_refl a))
  where
    go : (o : Ordering) → (T (is_le o) → a ≤ b) → (T (not (is_le o)) → b < a) → (T (compare_is_eq o) → a ≡ b) → (a ≡ b → T (compare_is_eq o)) → Cmp o a b
    go Ordering.lt h k e n = lt_of_le-ne (h tt) n
    go Ordering.eq h k e n = e tt
    go Ordering.gt h k e n = k tt

pub nearest_down : (q a b : ℕ) → a < b → q ≡ nearest q (compare a b)
nearest_down q a b h = go (compare a b) (cmp a b)
  where
    go : (o : Ordering) → Cmp o a b → q ≡ nearest q o
    go Ordering.lt x = refl
    go Ordering.eq x = absurd (not-le_of_lt h (omega arith))
    go Ordering.gt x = absurd (not-le_of_lt h (omega arith))

pub nearest_up : (q a b : ℕ) → b < a → q + 1 ≡ nearest q (compare a b)
nearest_up q a b h = go (compare a b) (cmp a b)
  where
    go : (o : Ordering) → Cmp o a b → q + 1 ≡ nearest q o
    go Ordering.lt x = absurd (not-le_of_lt h (omega arith))
    go Ordering.eq x = absurd (not-le_of_lt h (omega arith))
    go Ordering.gt x = omega arith

pub nearest_even : (q a b : ℕ) → a ≡ b → q + q % 2 ≡ nearest q (compare a b)
nearest_even q a b h = go (compare a b) (cmp a b)
  where
    go : (o : Ordering) → Cmp o a b → q + q % 2 ≡ nearest q o
    go Ordering.lt x = absurd (not-le_of_lt x (omega arith))
    go Ordering.eq x = refl
    go Ordering.gt x = absurd (not-le_of_lt x (omega arith))
