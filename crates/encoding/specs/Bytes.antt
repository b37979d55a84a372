-- Document 01 section 9: f32s as little-endian bytes. Definitions only.
use Rattle.std.specs.Prelude.{ℕ, ◌+◌, ◌*◌, ◌/◌, ◌%◌, List, [], ◌∷◌, Float}
use Rattle.std.specs.Float.{binary32}
use Rattle.std.specs.Float.Ieee.{of_bits, to_bits}

-- the bits' bytes, the lowest first; a NaN's are those of 7fc00000
unfoldable pub bytes_of : Float → List ℕ
bytes_of x = let n = to_bits binary32 x in n % 256 ∷ n / 256 % 256 ∷ n / 65536 % 256 ∷ n / 16777216 ∷ []

-- every NaN pattern is NaN
unfoldable pub float_of : ℕ → ℕ → ℕ → ℕ → Float
float_of b0 b1 b2 b3 = of_bits binary32 (b0 + b1 * 256 + b2 * 65536 + b3 * 16777216)

-- four bytes each; what is left over is dropped
unfoldable pub floats_of : List ℕ → List Float
floats_of [] = []
floats_of (b0 ∷ []) = []
floats_of (b0 ∷ b1 ∷ []) = []
floats_of (b0 ∷ b1 ∷ b2 ∷ []) = []
floats_of (b0 ∷ b1 ∷ b2 ∷ b3 ∷ bs) = float_of b0 b1 b2 b3 ∷ floats_of bs
