-- Document 01, "Order": a refusal is a test with its number. An entry has a list of them and answers the number of the first that
-- holds, 0 if none does. Definitions only.
use Rattle.std.specs.Prelude.{ℕ, Bool, cond, List, [], ◌∷◌}

pub record Test : Type 0 where
  pub number : ℕ
  pub holds : Bool

abbrev pub refuse : ℕ → Bool → Test
refuse n b = record { number = n; holds = b }

unfoldable pub first_refusal : List Test → ℕ
first_refusal [] = 0
first_refusal (t ∷ ts) = cond t.holds t.number (first_refusal ts)
