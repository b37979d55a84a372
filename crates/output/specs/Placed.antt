-- Where the digits of a number stand in a slice. Definitions only, for the contract of a private function.
use Rattle.std.specs.Prelude.{◌≡◌, ℕ, ◌<◌, ◌≤◌, List, length, drop, Option, Some, None}
use Rattle.output.specs.Field.{decimal}

-- out, which was d, ends in the digits of n, from i on
pub record Stands (n : ℕ) (d out : List ℕ) (i : ℕ) : Type 0 where
  pub long : length out ≡ length d
  pub low : i ≤ length d
  pub end : drop i out ≡ decimal n

-- the digits are more than fit
pub record Longer (n : ℕ) (d out : List ℕ) : Type 0 where
  pub long : length out ≡ length d
  pub over : length d < length (decimal n)

abbrev pub Placed : ℕ → List ℕ → List ℕ → Option ℕ → Type 0
Placed n d out (Some i) = Stands n d out i
Placed n d out None = Longer n d out
