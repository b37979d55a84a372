use Rattle.cards.specs.Card.{card_of}
use Rattle.listing.proofs.Entries.{rows_in}
use Rattle.listing.proofs.card.rows.Goals as goal

pub overflow_cast-first : goal.overflow_cast-first
unfolding card_of
overflow_cast-first c = (rows_in c.args.fields c.requires.accepted).first_fits

pub overflow_cast-last : goal.overflow_cast-last
unfolding card_of
overflow_cast-last c = (rows_in c.args.fields c.requires.accepted).last_fits

pub rows-requires : goal.rows-requires
unfolding card_of
rows-requires c = let r = rows_in c.args.fields c.requires.accepted in (r.low, r.order, r.high, c.requires.room)
