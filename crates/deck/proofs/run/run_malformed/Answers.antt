use Rattle.deck.proofs.Work.{malformed_done}
use Rattle.deck.proofs.run.run_malformed.Goals as goal

pub returns-clause-entry_done : goal.returns-clause-entry_done
returns-clause-entry_done c = rw (c.refused.ensures.value, c.refused.ensures.cleared) (malformed_done _ _ _ c.malformed_refusal-refusal.ensures)
