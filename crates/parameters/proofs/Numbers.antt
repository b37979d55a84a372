-- A type and its number say the same. Assumes nothing.
use Prim.Native.Nat.{ℕ, ◌<◌, ◌≤◌}
use mathlib.Core.Path.{◌≡◌, refl, sym, ap, subst, ◌∙◌}
use mathlib.Core.Bool.{Bool, true, false}
use native.Mathlib.Omega.{arith}
use lib.Dec.{T, eqb, eqb→eq}
use lib.IntN.{ℤ, pos, negsuc}
use Rattle.std.proofs.lemmas.Bool.Decides.{nat_tests}
use Rattle.parameters.specs.Params.{is_type}
use Rattle.parameters.specs.Kind.{kind_of, number_of, is_kind}
use Rattle.parameters.specs.declared.kind.Kind.{Kind}
use Rattle.parameters.specs.declared.kind.Kind.TheVariants as K

pub type_is : (number : ℤ) (n : ℕ) → is_type number n ≡ true → number ≡ pos n
unfolding is_type
type_is (pos k) n t = ap pos (eqb→eq k n (subst T (sym t) tt))
type_is (negsuc k) n t = absurd (subst T (sym t) tt)

-- a claim holds if it does for the type n, and where the type is another
pub by_type : {Claim : Type 0} (number : ℤ) (n : ℕ) → (number ≡ pos n → Claim) → (is_type number n ≡ false → Claim) → Claim
by_type {Claim} number n is other = go (is_type number n) refl
  where
    go : (b : Bool) → is_type number n ≡ b → Claim
    go true t = is (type_is number n t)
    go false t = other t

-- a number that is none of the ten is of no type
other : (number : ℤ) (n : ℕ) → 0 < n → n ≤ 10
    → is_type number 1 ≡ false → is_type number 2 ≡ false → is_type number 3 ≡ false → is_type number 4 ≡ false → is_type number 5 ≡ false
    → is_type number 6 ≡ false → is_type number 7 ≡ false → is_type number 8 ≡ false → is_type number 9 ≡ false → is_type number 10 ≡ false
    → eqb 0 n ≡ is_type number n
unfolding is_type
other (pos k) n low high t1 t2 t3 t4 t5 t6 t7 t8 t9 t10 = grind (arith, nat_tests)
other (negsuc k) n low high t1 t2 t3 t4 t5 t6 t7 t8 t9 t10 = grind (arith, nat_tests)

-- what is said of a number by its type is said by the number alone
pub is_kind_lem : (number : ℤ) (n : ℕ) → 0 < n → n ≤ 10 → is_kind (kind_of number) n ≡ is_type number n
unfolding kind_of is_type
is_kind_lem number n low high =
    by_type number 1 (λ p. rw p refl) (λ t1.
    by_type number 2 (λ p. rw p refl) (λ t2.
    by_type number 3 (λ p. rw p refl) (λ t3.
    by_type number 4 (λ p. rw p refl) (λ t4.
    by_type number 5 (λ p. rw p refl) (λ t5.
    by_type number 6 (λ p. rw p refl) (λ t6.
    by_type number 7 (λ p. rw p refl) (λ t7.
    by_type number 8 (λ p. rw p refl) (λ t8.
    by_type number 9 (λ p. rw p refl) (λ t9.
    by_type number 10 (λ p. rw p refl) (λ t10.
    rw (t1, t2, t3, t4, t5, t6, t7, t8, t9, t10) (other number n low high t1 t2 t3 t4 t5 t6 t7 t8 t9 t10)))))))))))

-- a type is told by its number
pub kind_number : (kind : Kind) → kind_of (pos (number_of kind)) ≡ kind
unfolding kind_of is_type
kind_number K.Rhombic = refl
kind_number K.Monopole = refl
kind_number K.Dipole = refl
kind_number K.Yagi = refl
kind_number K.LogPeriodic = refl
kind_number K.Curtain = refl
kind_number K.SlopingVee = refl
kind_number K.InvertedL = refl
kind_number K.SlopingRhombic = refl
kind_number K.InterlacedRhombic = refl
kind_number K.Other = refl

pub not_kind : (kind a : Kind) → (kind ≡ a → ⊥) → is_kind kind (number_of a) ≡ false
not_kind kind a other = go (is_kind kind (number_of a)) refl
  where
    go : (b : Bool) → is_kind kind (number_of a) ≡ b → b ≡ false
    go true t =
        let same : number_of kind ≡ number_of a = eqb→eq (number_of kind) (number_of a) (subst T (sym t) tt) in
        absurd (other (sym (kind_number kind) ∙ ap (λ (n : ℕ). kind_of (pos n)) same ∙ kind_number a))
    go false t = refl
