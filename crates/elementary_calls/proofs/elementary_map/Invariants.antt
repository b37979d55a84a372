use mathlib.Core.Path.{◌≡◌}
use Prim.Native.Nat.{ℕ, ◌<◌}
use lib.ListN.{length, get_or}
use lib.Ieee.{nan}
use Rattle.elementary_calls.specs.Calls.{answer_by}
use Rattle.elementary_calls.proofs.elementary_map.Given as goal

abbrev pub invariant-loop-i : goal.invariant-loop-i
invariant-loop-i l = (length l.out ≡ length l.xs) × ((k : ℕ) → k < l.i → get_or l.out k 0 ≡ answer_by l.function (get_or l.xs k nan))
