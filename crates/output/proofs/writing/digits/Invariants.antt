use Rattle.output.proofs.Field.{Spelling}
use Rattle.output.proofs.writing.digits.Given as goal

abbrev pub invariant-loop-i : goal.invariant-loop-i
invariant-loop-i l = Spelling l.n l.initial.out l.out l.rest l.i
