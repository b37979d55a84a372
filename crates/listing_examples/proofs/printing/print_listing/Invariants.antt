use Rattle.listing_examples.proofs.Loop.{Pieces}
use Rattle.listing_examples.proofs.printing.print_listing.Given as goal

abbrev pub invariant-loop : goal.invariant-loop
invariant-loop l = Pieces l.input l.initial.line l.initial.table l.initial.out l.line l.table l.out l.from
