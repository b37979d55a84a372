use Prim.Native.Nat.{◌-◌, ◌<◌}
use mathlib.Core.Path.{◌≡◌}
use mathlib.Core.Bool.{false}
use Rattle.integrals.specs.Series.{most_turns, series_from, series_of}
use Rattle.integrals.proofs.series.sum_series.Given as goal

abbrev pub invariant-loop : goal.invariant-loop
invariant-loop l = (l.turns < most_turns) × (series_from (most_turns - l.turns) false l.turns l.sum l.term l.g l.sq ≡ series_of l.first l.start l.from l.sq)

abbrev pub decreases-loop : goal.decreases-loop
decreases-loop l = most_turns - l.turns
