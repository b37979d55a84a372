use Rattle.std.proofs.Common.{rules}
use Rattle.listing.specs.Ready.{Ready}
use Rattle.gainlist.proofs.Loops.{advance}
use Rattle.gainlist.proofs.list_piece.Goals as goal

pub loop-used-smaller : goal.loop-used-smaller
loop-used-smaller c =
    let l = c.loop-used in
    let b = l.buffers in
    let ready : Ready b.line b.table b.out l.s.at = record { line_length = search rules; table_len = search rules; room = search rules } in
    advance _ _ c.args.piece.now _ _ _ l.used _ _ _ _ ready c.loop-used-test.true c.step-r.ensures
