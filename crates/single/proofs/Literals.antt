-- What an f32's literal computes by, passed on: an attribute's `unfolding` reaches the logic's own words only through a crate. Assumes nothing.
unfoldable pub use lib.Ieee.{round, of_bits, neg}
