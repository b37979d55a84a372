use mathlib.Core.Path.{◌≡◌}
use Prim.Native.Nat.{◌-◌}
use Rattle.deck.specs.Row.{cell_at, stored_above}
use Rattle.deck.proofs.row.fill_above.Given as goal

abbrev pub invariant-loop-d : goal.invariant-loop-d
invariant-loop-d l = l.table ≡ stored_above (cell_at l.row l.zenith l.azimuth) l.m (l.d - 1) l.initial.table
