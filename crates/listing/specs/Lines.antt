-- Document 01 section 10: the lines of the input. Definitions only.
use Rattle.std.specs.Prelude.{ℕ, cond, List, [], ◌∷◌, eqb}

-- a byte put before the first line
unfoldable pub on_first : ℕ → List (List ℕ) → List (List ℕ)
on_first b [] = (b ∷ []) ∷ []
on_first b (l ∷ ls) = (b ∷ l) ∷ ls

-- Each line ends in a line feed, which is no part of it. "The last line feed may be missing": bytes after the last one are a line, no bytes are none
unfoldable pub lines_of : List ℕ → List (List ℕ)
unfolding on_first
lines_of [] = []
lines_of (b ∷ bs) = let ls = lines_of bs in cond (eqb b 10) ([] ∷ ls) (on_first b ls)
