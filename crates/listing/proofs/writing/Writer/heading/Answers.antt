use Rattle.std.proofs.Common.{rules}
use Rattle.listing.specs.Text.{heading_text}
use Rattle.listing.proofs.Printed.{unsigned, signed}
use Rattle.listing.proofs.Buffer.{after}
use Rattle.listing.proofs.writing.Writer.heading.Goals as goal

pub returns : goal.returns
unfolding heading_text
returns c =
    let place = unsigned c.args.place 7 (search rules) c.integer.ensures in
    let kop = signed c.args.kop 3 c.ranges.kop c.integer-2.ensures in
    let refusal = unsigned c.args.refusal 3 (search rules) c.integer-3.ensures in
    after (after (after place kop) refusal) c.line_feed.ensures
