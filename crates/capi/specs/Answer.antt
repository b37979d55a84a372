-- Document 01 section 9, through C: an answer is 12 bytes, gain, efficiency and the height left. Definitions only.
use Rattle.std.specs.Prelude.{ℕ, cond, List, ◌++◌, eqb, length, Float}
use Rattle.encoding.specs.Bytes.{bytes_of}

abbrev pub answer_length : ℕ
answer_length = 12

unfoldable pub answer_bytes : Float → Float → Float → List ℕ
answer_bytes gain efficiency height = bytes_of gain ++ (bytes_of efficiency ++ bytes_of height)

-- what is left in the answer: nothing is written where its length is wrong
unfoldable pub answered : List ℕ → List ℕ → List ℕ
answered answer bytes = cond (eqb (length answer) answer_length) bytes answer

-- the refusal: 7 where the answer's length is wrong, before n
unfoldable pub numbered : List ℕ → ℕ → ℕ
numbered answer n = cond (eqb (length answer) answer_length) n 7
