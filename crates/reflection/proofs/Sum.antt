-- A sum of two f32s is the same in either order. Assumes nothing.
use Prim.Native.Nat.{ℕ, ◌-◌, ◌*◌}
use mathlib.Core.Path.{◌≡◌, refl, sym, ap}
use mathlib.Core.Bool.{Bool, true, false, cond}
use native.Mathlib.Nat.{mul_comm, add_comm}
use native.Mathlib.Omega.{arith}
use lib.Dec.{ltb}
use lib.Ieee.{Float, nan, inf, fin, Format, binary32, up, down, round, sum, add}
use Rattle.single.specs.Single.{◌⊞◌}

-- the larger less the smaller, with the larger's sign
difference : (r : Bool → ℕ → Float) (a b : ℕ)
    → cond (ltb a b) (r false (b - a)) (r (ltb b a) (a - b)) ≡ cond (ltb b a) (r true (a - b)) (r false (b - a))
difference r a b = go (ltb a b) (ltb b a) refl refl
  where
    go : (p q : Bool) → ltb a b ≡ p → ltb b a ≡ q → cond p (r false (b - a)) (r q (a - b)) ≡ cond q (r true (a - b)) (r false (b - a))
    go true true h g = absurd (grind arith)
    go true false h g = refl
    go false true h g = refl
    go false false h g = ap (r false) (grind arith)

sum_comm : (f : Format) (s : Bool) (a : ℕ) (t : Bool) (b c : ℕ) → sum f s a t b c ≡ sum f t b s a c
unfolding sum
sum_comm f true a true b c = rw (add_comm a b) refl
sum_comm f true a false b c = difference (λ (s : Bool) (n : ℕ). round f s n c) a b
sum_comm f false a true b c = sym (difference (λ (s : Bool) (n : ℕ). round f s n c) b a)
sum_comm f false a false b c = rw (add_comm a b) refl

pub ⊞_comm : (x y : Float) → x ⊞ y ≡ y ⊞ x
unfolding add
⊞_comm nan nan = refl
⊞_comm nan (inf t) = refl
⊞_comm nan (fin t n d) = refl
⊞_comm (inf s) nan = refl
⊞_comm (inf true) (inf true) = refl
⊞_comm (inf true) (inf false) = refl
⊞_comm (inf false) (inf true) = refl
⊞_comm (inf false) (inf false) = refl
⊞_comm (inf s) (fin t n d) = refl
⊞_comm (fin s m e) nan = refl
⊞_comm (fin s m e) (inf t) = refl
⊞_comm (fin s m e) (fin t n d) =
    rw (mul_comm (down d) (down e)) (sum_comm binary32 s (m * up e * down d) t (n * up d * down e) (down e * down d))
