use mathlib.Core.Path.{◌∙◌}
use Rattle.capi.proofs.Stores.{answer_filled}
use Rattle.capi.proofs.answers.write_answer.Goals as goal

pub returns : goal.returns
returns c =
    let a = c.args in
    answer_filled a.answer.now a.gain a.efficiency a.height _ _ _ (c.copy_from_slice.ensures.after ∙ c.bytes_of.ensures)
    (c.copy_from_slice-2.ensures.after ∙ c.bytes_of-2.ensures) (c.copy_from_slice-3.ensures.after ∙ c.bytes_of-3.ensures)
