-- A quotient by 10000 to the nearest whole number. Definitions only, for the contract of a private function.
use Prim.Native.Nat.{ℕ, ◌*◌, ◌/◌, ◌%◌, compare}
use Rattle.std.specs.Float.Ieee.{nearest}

-- at a tie the even one
unfoldable pub nearest_whole : ℕ → ℕ
nearest_whole m = nearest (m / 10000) (compare (m % 10000 * 2) 10000)
