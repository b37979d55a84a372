-- Passed on from `arctangent`.
unfoldable pub use Rattle.arctangent.specs.Arctangent.{from_base, arctangent_of, arctangent, arcsine}
pub use Rattle.arctangent.specs.Arctangent.{a1, a2, a3, a4, upper, lower, half_pi, quarter_pi}
