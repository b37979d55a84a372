use mathlib.Core.Path.{◌≡◌, ap, sym, ◌∙◌}
use mathlib.Core.Bool.{true}
use borrow.Author.Rules.{rules}
use borrow.Author.Tests.{eqb-true}
use lib.ListN.{replicate}
use lib.Ieee.{round, of_bits}
use Rattle.single.specs.Single.{num}
use Rattle.table.specs.Table.{is_table, table_length, cleared, refused_table}
use Rattle.table.proofs.clear_refused.Goals as goal

pub returns-then-is_table : goal.returns-then-is_table
unfolding refused_table cleared is_table round of_bits
returns-then-is_table c =
    let t : is_table c.args.table.now ≡ true = sym c.is_table.ensures ∙ c.if-is_table.true in
    rw t (c.fill.ensures.after (search rules) ∙ ap (λ k. replicate k (num 0 1)) (eqb-true _ table_length t))
