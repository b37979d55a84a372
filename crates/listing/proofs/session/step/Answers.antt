use Rattle.std.proofs.Common.{refl, sym, ◌∙◌, arith, rules}
use Rattle.std.proofs.lemmas.Option.{MatchOption-at_some}
use Rattle.listing.proofs.Ready.{tested, is_there}
use Rattle.listing.proofs.Sessions.{step_idle, step_part, step_whole}
use Rattle.listing.proofs.session.step.Goals as goal

pub returns-then-not-is_ready : goal.returns-then-not-is_ready
returns-then-not-is_ready c = step_idle _ _ _ _ _ _ (sym c.is_ready.ensures ∙ c.if-not-is_ready.true)

pub unwrap-buffer-requires : goal.unwrap-buffer-requires
unwrap-buffer-requires c = is_there _ _ _ c.as_mut_array.ensures.cases (λ n. n (tested _ _ _ _ c.is_ready.ensures c.if-not-is_ready.false).line_length)

pub unwrap-cells-requires : goal.unwrap-cells-requires
unwrap-cells-requires c = is_there _ _ _ c.as_mut_array-2.ensures.cases (λ n. n (tested _ _ _ _ c.is_ready.ensures c.if-not-is_ready.false).table_len)

pub list_line-next-requires : goal.list_line-next-requires
list_line-next-requires c = omega (arith, (tested _ _ _ _ c.is_ready.ensures c.if-not-is_ready.false).room)

pub returns-in_default : goal.returns-in_default
returns-in_default c =
    let r = tested _ _ _ _ c.is_ready.ensures c.if-not-is_ready.false in
    let buffer = MatchOption-at_some _ _ _ c.unwrap-buffer.ensures c.as_mut_array.ensures.cases in
    let cells = MatchOption-at_some _ _ _ c.unwrap-cells.ensures c.as_mut_array-2.ensures.cases in
    rw cells.same (step_part _ _ _ _ _ _ _ _ _ r buffer.same c.held_in.ensures c.gather-end.ensures _ c.in_default.is (search rules))

pub returns : goal.returns
returns c =
    let r = tested _ _ _ _ c.is_ready.ensures c.if-not-is_ready.false in
    let buffer = MatchOption-at_some _ _ _ c.unwrap-buffer.ensures c.as_mut_array.ensures.cases in
    let cells = MatchOption-at_some _ _ _ c.unwrap-cells.ensures c.as_mut_array-2.ensures.cases in
    let listed = rw cells.same at c.list_line-next.ensures in
    step_whole _ _ _ _ _ _ _ _ _ r buffer.same c.held_in.ensures c.gather-end.ensures _ _ _ _ _ _ _ c.in-Some.is refl refl listed (search rules) (search rules)
