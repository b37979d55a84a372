-- The calls keep the lengths of their buffers, which were line₀, table₀ and out₀. Definitions only.
use mathlib.Core.Path.{◌≡◌}
use mathlib.Core.List.{List}
use Prim.Native.Nat.{ℕ}
use lib.Ieee.{Float}
use lib.ListN.{length}

pub record SameLengths (line₀ : List ℕ) (table₀ : List Float) (out₀ line : List ℕ) (table : List Float) (out : List ℕ) : Type 0 where
  pub line_same : length line ≡ length line₀
  pub table_same : length table ≡ length table₀
  pub out_same : length out ≡ length out₀
