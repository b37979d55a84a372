use Rattle.listing.proofs.Printed.{Rows}
use Rattle.listing.proofs.writing.Writer.rows.Given as goal

abbrev pub invariant-loop-m : goal.invariant-loop-m
invariant-loop-m l = Rows l.table l.first l.initial.self l.self l.m
