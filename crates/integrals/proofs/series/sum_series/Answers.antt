-- The loop's invariant: fewer than eight turns are made, and the series from here comes to what the whole comes to. The measure is the turns left.
use Prim.Native.Nat.{ℕ, zero, suc, ◌+◌, ◌-◌, ◌<◌, ◌≤◌}
use mathlib.Core.Path.{◌≡◌, refl, sym, ◌∙◌}
use mathlib.Core.Bool.{Bool, true, false}
use native.Mathlib.Omega.{arith}
use lib.Ieee.{Float, le, round, of_bits}
use Rattle.std.specs.Prelude.{Option, Some, None}
use Rattle.single.specs.Single.{◌⊞◌, num}
use Rattle.elementary.specs.Basic.{absolute}
use Rattle.integrals.specs.declared.series.SeriesSum.{SeriesSum}
use Rattle.integrals.specs.Series.{most_turns, series_from, next_term}
use Rattle.integrals.proofs.series.sum_series.Goals as goal

settled : (m n : ℕ) (sum term g sq : Float) → series_from m true n sum term g sq ≡ Some (record { sum = sum; turns = n })
unfolding series_from
settled zero n sum term g sq = refl
settled (suc m) n sum term g sq = refl

module _ (k : ℕ) (sum term g sq a : Float) (r : Option SeriesSum) (below : k < most_turns) (e : a ≡ absolute (next_term term sq g))
    (inv : series_from (most_turns - k) false k sum term g sq ≡ r) where
  -- what the series comes to before a turn, it comes to after it
  turn : (b : Bool) → le a (num 5 100000) ≡ b →
      series_from (most_turns - (k + 1)) b (k + 1) (sum ⊞ term) (next_term term sq g) (g ⊞ num 2 1) sq ≡ r
  unfolding series_from
  turn b t =
      let left : most_turns - k ≡ suc (most_turns - (k + 1)) = omega arith in
      rw (← t, e) (rw left at inv)

  stop : le a (num 5 100000) ≡ true → Some (record { sum = sum ⊞ term; turns = k + 1 }) ≡ r
  stop t = sym (settled (most_turns - (k + 1)) (k + 1) (sum ⊞ term) (next_term term sq g) (g ⊞ num 2 1) sq) ∙ turn true t

  fail : le a (num 5 100000) ≡ false → most_turns ≤ k + 1 → None ≡ r
  unfolding series_from
  fail t h =
      let none : most_turns - (k + 1) ≡ 0 = omega arith in
      rw none at (turn false t)

pub loop-preserved : goal.loop-preserved
unfolding round of_bits
loop-preserved c =
    let l = c.loop in
    (omega arith, turn _ _ _ _ _ _ _ l.invariant.0 c.abs.ensures l.invariant.1 false c.if-abs.false)

pub returns-then-abs : goal.returns-then-abs
unfolding round of_bits
returns-then-abs c =
    let l = c.loop in
    stop _ _ _ _ _ _ _ l.invariant.0 c.abs.ensures l.invariant.1 c.if-abs.true
