use mathlib.Core.Path.{sym, subst, ◌∙◌}
use lib.Dec.{T}
use lib.IntN.{ℤ}
use lib.Ieee.{binary32, in_float}
use mir.Syntax.{w32}
use mir.ValLaws.{to_z-of_z}
use borrow.Author.Rules.{sfits_of}
use Rattle.antenna.proofs.Cuts.{cut_kept}
use Rattle.antenna.proofs.places.locate.Goals as goal

pub int_to_float-result : goal.int_to_float-result
int_to_float-result c =
    let cut = c.cut-cut_fmc in
    subst (λ (z : ℤ). T (in_float binary32 z)) (sym (to_z-of_z w32 _ (sfits_of cut.type_inv) ∙ cut.ensures)) (cut_kept _ c.requires.0)
