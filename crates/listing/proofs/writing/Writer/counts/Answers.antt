use Rattle.std.proofs.Common.{rules}
use Rattle.listing.specs.Text.{counts_text}
use Rattle.listing.proofs.Printed.{unsigned}
use Rattle.listing.proofs.Buffer.{after}
use Rattle.listing.proofs.writing.Writer.counts.Goals as goal

pub returns : goal.returns
unfolding counts_text
returns c =
    let accepted = unsigned c.args.deck.accepted 7 (search rules) c.integer.ensures in
    let refused = unsigned c.args.deck.refused 7 (search rules) c.integer-2.ensures in
    after (after accepted refused) c.line_feed.ensures
