use Prim.Native.Nat.{◌-◌}
use Rattle.independence.proofs.Loops.{CardInv}
use Rattle.cards.specs.declared.fields.Fields.{Fields}
use Rattle.deck.specs.Antenna.{the_antenna}
use Rattle.deck.proofs.CardRows.{RowsOf}
use Rattle.deck.proofs.filling.fill_card.Given as goal

abbrev pub invariant-loop-m : goal.invariant-loop-m
invariant-loop-m l = (f : Fields) → RowsOf l.antenna l.first l.last f → CardInv the_antenna f l.height l.initial.table l.table l.x (l.m - l.first)
