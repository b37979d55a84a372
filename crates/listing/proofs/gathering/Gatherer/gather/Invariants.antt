use Rattle.listing.proofs.Pieces.{Gathering}
use Rattle.listing.proofs.gathering.Gatherer.gather.Given as goal

abbrev pub invariant-loop-i : goal.invariant-loop-i
invariant-loop-i l = Gathering l.initial.self l.piece l.self l.i
