use mathlib.Core.Path.{◌≡◌, refl, ◌∙◌}
use mathlib.Core.Bool.{Bool, true, false, cond}
use mathlib.Core.List.{List}
use Prim.Native.Nat.{ℕ, suc, ◌-◌, ◌<◌}
use native.Mathlib.Omega.{arith}
use lib.ListN.{length, drop, get_or}
use lib.Seq.{drop-cons, drop-length}
use lib.Ieee.{Float, nan, le}
use Rattle.inverted_cone.specs.InvertedCone.{upper_from}
use Rattle.inverted_cone.proofs.cone.upper.Goals as goal

module _ (x : Float) (bounds : List Float) (i : ℕ) where
  -- one bound and the rest
  one : i < length bounds → upper_from x i (drop i bounds) ≡ cond (le x (get_or bounds i nan)) i (upper_from x (suc i) (drop (suc i) bounds))
  unfolding upper_from
  one h = rw (drop-cons bounds i nan h)

  found : i < length bounds → le x (get_or bounds i nan) ≡ true → i ≡ upper_from x i (drop i bounds)
  found h e = rw (one h, e)

  passed : i < length bounds → le x (get_or bounds i nan) ≡ false → upper_from x (suc i) (drop (suc i) bounds) ≡ upper_from x i (drop i bounds)
  passed h e = rw (one h, e)

  -- the last bound is taken either way
  last : suc i ≡ length bounds → i ≡ upper_from x i (drop i bounds)
  unfolding upper_from
  last e = let h : i < length bounds = omega arith in rw (one h, e, drop-length) (either (le x (get_or bounds i nan)))
    where
      either : (b : Bool) → i ≡ cond b i (length bounds - 1)
      either true = refl
      either false = omega arith

pub loop-i-init : goal.loop-i-init
loop-i-init c = (omega arith, omega arith, omega arith, omega arith, last _ _ _ (omega arith))

pub loop-i-preserved-then-x-bounds : goal.loop-i-preserved-then-x-bounds
loop-i-preserved-then-x-bounds c = (omega arith, omega arith, omega arith, omega arith, found _ _ _ (omega arith) c.if-x-bounds.true)

pub loop-i-preserved : goal.loop-i-preserved
loop-i-preserved c =
    let l = c.loop-i in
    let e = passed _ c.args.bounds.now (l.i - 1) (omega arith) c.if-x-bounds.false in
    let s : suc (l.i - 1) ≡ l.i = omega arith in
    (omega arith, omega arith, omega arith, omega arith, l.invariant.4 ∙ rw s at e)
