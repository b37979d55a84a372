use Rattle.field_reading.proofs.Steps.{Digits}
use Rattle.field_reading.proofs.reading.digits.Given as goal

abbrev pub invariant-loop-b : goal.invariant-loop-b
invariant-loop-b l = Digits l.s l.n l.b-index
