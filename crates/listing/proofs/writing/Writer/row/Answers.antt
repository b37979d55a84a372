use Rattle.std.proofs.Common.{rules}
use Rattle.listing.proofs.Printed.{row, unsigned}
use Rattle.listing.proofs.Buffer.{after}
use Rattle.listing.proofs.writing.Writer.row.Goals as goal

pub returns : goal.returns
returns c =
    let m = unsigned c.args.m 3 (search rules) c.integer.ensures in
    row _ c.args.m (after (after (after m c.hundredths.ensures) c.hundredths-2.ensures) c.line_feed.ensures)
