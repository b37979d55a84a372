-- Text written into a buffer. Definitions only.
use Rattle.std.specs.Prelude.{◌≡◌, List, ◌++◌, ℕ, ◌+◌, ◌≤◌, length, take, drop}

-- the buffer with the text t from a on; the rest as it was
unfoldable pub overwritten : List ℕ → ℕ → List ℕ → List ℕ
overwritten buffer a t = take a buffer ++ (t ++ drop (a + length t) buffer)

-- the buffer d became e: t was written from a on, and ends at b
pub record Appended (d : List ℕ) (a : ℕ) (t e : List ℕ) (b : ℕ) : Type 0 where
  pub fits : a + length t ≤ length d
  pub is : e ≡ overwritten d a t
  pub end : b ≡ a + length t
  pub long : length e ≡ length d
