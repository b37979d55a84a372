use mathlib.Core.Path.{sym, ◌∙◌}
use Rattle.refusals.proofs.Refusals.{is_judged}
use Rattle.deck.proofs.BeforeWork.{fields_refuse}
use Rattle.deck.proofs.run.refusal_before_work.Goals as goal

pub returns : goal.returns
returns c = is_judged _ (c.fields_refusal.ensures.1 ∙ sym (fields_refuse _ _ _ c.deck_refusal.ensures c.in_ok-deck_refusal.was))
