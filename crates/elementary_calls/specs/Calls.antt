-- The elementary functions by the numbers that the oracle's lists and sweeps give them (oracle/README.md). Definitions only.
use Rattle.std.specs.Prelude.{ℕ, ◌-◌, cond, List, [], ◌∷◌, eqb, ℤ, pos, negsuc, length, Float}
use Rattle.std.specs.Float.{binary32}
use Rattle.std.specs.Float.Ieee.{to_bits}
use Rattle.root.specs.Root.{root}
use Rattle.elementary_calls.specs.declared.Function.{Function}
use Rattle.elementary_calls.specs.declared.Function.TheVariants.{Abs, MaxSmall, Cut, Powi2, Powi4, Sin, Cos, SineOfBoth, CosineOfBoth}
use Rattle.elementary_calls.specs.declared.Function.TheVariants.{Tan, Atan, Asin, Ln, Log10, Root}
use Rattle.elementary.specs.Basic.{absolute, max_small, cut_toward, square, fourth}
use Rattle.elementary.specs.Trigonometric.{sine, cosine, tangent}
use Rattle.elementary.specs.Arctangent.{arctangent, arcsine}
use Rattle.elementary.specs.Logarithm.{logarithm, logarithm10}

-- the two's complement of an i32
abbrev pub twos_complement : ℤ → ℕ
twos_complement (pos n) = n
twos_complement (negsuc n) = 4294967295 - n

-- the function with a number; from 14 on it is the root
abbrev pub function_of : ℕ → Function
function_of f =
    cond (eqb f 0) Abs
    (cond (eqb f 1) MaxSmall
    (cond (eqb f 2) Cut
    (cond (eqb f 3) Powi2
    (cond (eqb f 4) Powi4
    (cond (eqb f 5) Sin
    (cond (eqb f 6) Cos
    (cond (eqb f 7) SineOfBoth
    (cond (eqb f 8) CosineOfBoth
    (cond (eqb f 9) Tan
    (cond (eqb f 10) Atan
    (cond (eqb f 11) Asin
    (cond (eqb f 12) Ln
    (cond (eqb f 13) Log10 Root)))))))))))))

-- 7 and 8 are sine and cosine as found at once; from 14 on it is the root
unfoldable pub value : ℕ → Float → Float
value f x =
    cond (eqb f 0) (absolute x)
    (cond (eqb f 1) (max_small x)
    (cond (eqb f 3) (square x)
    (cond (eqb f 4) (fourth x)
    (cond (eqb f 5) (sine x)
    (cond (eqb f 6) (cosine x)
    (cond (eqb f 7) (sine x)
    (cond (eqb f 8) (cosine x)
    (cond (eqb f 9) (tangent x)
    (cond (eqb f 10) (arctangent x)
    (cond (eqb f 11) (arcsine x)
    (cond (eqb f 12) (logarithm x)
    (cond (eqb f 13) (logarithm10 x) (root x)))))))))))))

-- the bits of an answer: 2 is the cut, a whole number
unfoldable pub answer : ℕ → Float → ℕ
answer f x = cond (eqb f 2) (twos_complement (cut_toward x)) (to_bits binary32 (value f x))

-- the same by the function: `answer_is`, proofs/Functions.antt
abbrev pub answer_by : Function → Float → ℕ
answer_by Abs x = to_bits binary32 (absolute x)
answer_by MaxSmall x = to_bits binary32 (max_small x)
answer_by Cut x = twos_complement (cut_toward x)
answer_by Powi2 x = to_bits binary32 (square x)
answer_by Powi4 x = to_bits binary32 (fourth x)
answer_by Sin x = to_bits binary32 (sine x)
answer_by Cos x = to_bits binary32 (cosine x)
answer_by SineOfBoth x = to_bits binary32 (sine x)
answer_by CosineOfBoth x = to_bits binary32 (cosine x)
answer_by Tan x = to_bits binary32 (tangent x)
answer_by Atan x = to_bits binary32 (arctangent x)
answer_by Asin x = to_bits binary32 (arcsine x)
answer_by Ln x = to_bits binary32 (logarithm x)
answer_by Log10 x = to_bits binary32 (logarithm10 x)
answer_by Root x = to_bits binary32 (root x)

-- of each argument
unfoldable pub answers : ℕ → List Float → List ℕ
answers f [] = []
answers f (x ∷ xs) = answer f x ∷ answers f xs

-- the entry over slices: 7 where their lengths differ, and then nothing is written
unfoldable pub map_number : List Float → List ℕ → ℕ
map_number xs out = cond (eqb (length xs) (length out)) 0 7

unfoldable pub mapped : ℕ → List Float → List ℕ → List ℕ
mapped f xs out = cond (eqb (length xs) (length out)) (answers f xs) out
