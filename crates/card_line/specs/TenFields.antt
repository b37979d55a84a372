-- What the reading of the ten fields does. Definitions only, for the contract of a private function.
use Rattle.std.specs.Prelude.{◌≡◌, true, false, List, ℕ, ◌<◌, get_or, Float, Option, Some, None}
use Rattle.std.specs.Float.{nan}
use Rattle.field_reading.specs.Decimal.{decimal_value}
use Rattle.card_line.specs.Line.{decimal_at, decimals_read}

-- all ten are numbers, and these are their values
pub record Values (l : List ℕ) (values : List Float) : Type 0 where
  pub all : decimals_read l 10 ≡ true
  pub each : (k : ℕ) → k < 10 → get_or values k nan ≡ decimal_value (decimal_at l k)

abbrev pub DecimalsDone : List ℕ → Option (List Float) → Type 0
DecimalsDone l (Some values) = Values l values
DecimalsDone l None = decimals_read l 10 ≡ false
