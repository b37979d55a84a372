use Rattle.card_line.proofs.TenFields.{Reading}
use Rattle.card_line.proofs.line.read_decimals.Given as goal

abbrev pub invariant-loop-k : goal.invariant-loop-k
invariant-loop-k l = Reading l.s l.values l.k
