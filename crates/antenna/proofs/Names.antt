-- A name that an attribute can say. Assumes nothing.
pub use Rattle.lookup_refusals.proofs.Accepted.{card-range as card_range}
