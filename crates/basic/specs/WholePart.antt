-- The whole part of a number's magnitude. Definitions only, for contracts of private functions.
use Rattle.std.specs.Prelude.{ℕ, ◌*◌, ◌/◌, Float}
use Rattle.std.specs.Float.{nan, inf, fin}
use Rattle.std.specs.Float.Ieee.{up, down}

abbrev pub whole_part : Float → ℕ
whole_part nan = 0
whole_part (inf s) = 0
whole_part (fin s m e) = m * up e / down e
