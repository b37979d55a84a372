-- Passed on from `basic`.
unfoldable pub use Rattle.basic.specs.Basic.{absolute, max_small, cut_toward, square, fourth}
pub use Rattle.basic.specs.Basic.{least_power}
