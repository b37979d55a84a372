use Rattle.std.proofs.Common.{refl, sym, ◌∙◌, [], arith, rules}
use Rattle.std.proofs.lemmas.Option.{MatchOption-at_some}
use Rattle.listing.proofs.Ready.{tested, is_there}
use Rattle.listing.proofs.Sessions.{finish_idle, finish_empty, finish_held}
use Rattle.listing.proofs.session.finish.Goals as goal

pub returns-then-not-is_ready : goal.returns-then-not-is_ready
returns-then-not-is_ready c = finish_idle _ _ _ _ _ (sym c.is_ready.ensures ∙ c.if-not-is_ready.true)

pub unwrap-buffer-requires : goal.unwrap-buffer-requires
unwrap-buffer-requires c = is_there _ _ _ c.as_array.ensures.cases (λ n. n (tested _ _ _ _ c.is_ready.ensures c.if-not-is_ready.false).line_length)

pub unwrap-cells-requires : goal.unwrap-cells-requires
unwrap-cells-requires c = is_there _ _ _ c.as_mut_array.ensures.cases (λ n. n (tested _ _ _ _ c.is_ready.ensures c.if-not-is_ready.false).table_len)

pub counts-requires : goal.counts-requires
counts-requires c = omega (arith, (tested _ _ _ _ c.is_ready.ensures c.if-not-is_ready.false).room)

pub returns-then-held-eq0 : goal.returns-then-held-eq0
returns-then-held-eq0 c =
    let r = tested _ _ _ _ c.is_ready.ensures c.if-not-is_ready.false in
    let cells = MatchOption-at_some _ _ _ c.unwrap-cells.ensures c.as_mut_array.ensures.cases in
    rw cells.same
    (finish_empty _ _ _ _ _ r _ _ _ _ c.held_in-held.ensures c.if-held-eq0.true refl refl c.counts.ensures (search rules))

pub list_line-last-requires : goal.list_line-last-requires
list_line-last-requires c = omega (arith, (tested _ _ _ _ c.is_ready.ensures c.if-not-is_ready.false).room)

pub counts-requires-2 : goal.counts-requires-2
counts-requires-2 c =
    let r = tested _ _ _ _ c.is_ready.ensures c.if-not-is_ready.false in
    omega (arith, c.list_line-last.ensures.within, (c.list_line-last.ensures.text []).text.long, r.room)

pub returns : goal.returns
returns c =
    let r = tested _ _ _ _ c.is_ready.ensures c.if-not-is_ready.false in
    let buffer = MatchOption-at_some _ _ _ c.unwrap-buffer.ensures c.as_array.ensures.cases in
    let cells = MatchOption-at_some _ _ _ c.unwrap-cells.ensures c.as_mut_array.ensures.cases in
    finish_held _ _ _ _ _ r _ _ _ _ _ refl refl c.counts-2.ensures _ _ c.held_in-held.ensures c.if-held-eq0.false
    (rw (buffer.same, cells.same) at c.list_line-last.ensures) (search rules)
