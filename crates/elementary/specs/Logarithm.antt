-- Passed on from `logarithm`.
unfoldable pub use Rattle.logarithm.specs.Logarithm.{ln_at, ln_from, logarithm, logarithm10}
pub use Rattle.logarithm.specs.Logarithm.{ln2, least_digits, digits_end, Split, log10_of_e}
