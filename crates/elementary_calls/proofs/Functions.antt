-- The answers by function are those by number. Assumes nothing.
use mathlib.Core.Path.{◌≡◌, refl}
use mathlib.Core.Bool.{Bool, true, false, cond}
use Prim.Native.Nat.{ℕ}
use lib.Dec.{eqb, eqb→eq}
use Rattle.single.proofs.Booleans.{holds}
use lib.Ieee.{Float, binary32, to_bits}
use Rattle.elementary_calls.specs.declared.Function.{Function}
use Rattle.elementary_calls.specs.Calls.{function_of, value, answer, answer_by}

by_test : (b : Bool) (f g : Function) (x : Float) → answer_by (cond b f g) x ≡ cond b (answer_by f x) (answer_by g x)
by_test true f g x = refl
by_test false f g x = refl

of_test : (b : Bool) (y z : Float) → to_bits binary32 (cond b y z) ≡ cond b (to_bits binary32 y) (to_bits binary32 z)
of_test true y z = refl
of_test false y z = refl

-- the cut is the third by number, and the first that `answer` asks for
third : (a b c : Bool) (p q r s : ℕ) → (c ≡ true → (a ≡ false) × (b ≡ false)) → cond a p (cond b q (cond c r s)) ≡ cond c r (cond a p (cond b q s))
third a b true p q r s h = let e = h refl in simp (e.0, e.1)
third true b false p q r s h = refl
third false b false p q r s h = refl

not_both : (f : ℕ) → eqb f 2 ≡ true → (eqb f 0 ≡ false) × (eqb f 1 ≡ false)
not_both f e = let h : f ≡ 2 = eqb→eq f 2 (holds e) in rw h (refl, refl)

pub answer_is : (f : ℕ) (x : Float) → answer_by (function_of f) x ≡ answer f x
unfolding answer value
answer_is f x = simp (by_test, of_test) (third (eqb f 0) (eqb f 1) (eqb f 2) _ _ _ _ (not_both f))
