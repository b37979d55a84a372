-- Document 01 section 1: sine, cosine, tangent, step by step. Definitions only.
use Rattle.std.specs.Prelude.{ℕ, ◌-◌, ◌%◌, Bool, cond, ◌&&◌, eqb, ℤ, pos, negsuc, Float}
use Rattle.std.specs.Float.{nan, binary32}
use Rattle.std.specs.Float.Ieee.{neg, lt, le, of_int}
use Rattle.single.specs.Single.{◌⊞◌, ◌⊟◌, ◌⊠◌, ◌⊘◌, num}
use Rattle.basic.specs.Basic.{cut_toward}
use Rattle.trigonometric.specs.declared.trigonometric.SineCosine.{SineCosine}

abbrev pub two_over_pi : Float
two_over_pi = num 63661975 100000000

-- the pieces of pi of fastmath.rs, halved
abbrev pub piece1 : Float
piece1 = num 15703125 10000000

abbrev pub piece2 : Float
piece2 = num 48351288 100000000000

abbrev pub piece3 : Float
piece3 = num 3138557 10000000000000

abbrev pub limit : Float
limit = num 1048576 1

-- finite, and at most 1,048,576 in magnitude: every comparison with a NaN is false
unfoldable pub in_range : Float → Bool
in_range x = le (neg limit) x && le x limit

-- what n is cut from
unfoldable pub turns_argument : Float → Float
turns_argument x = cond (lt x (num 0 1)) (x ⊠ two_over_pi ⊟ num 5 10) (x ⊠ two_over_pi ⊞ num 5 10)

-- n: the quarter turns nearest to the argument
unfoldable pub turns : Float → ℤ
unfolding turns_argument
turns x = cut_toward (turns_argument x)

-- r: what n quarter turns leave of the argument
unfoldable pub rest : Float → Float → Float
rest x n = x ⊟ n ⊠ piece1 ⊟ n ⊠ piece2 ⊟ n ⊠ piece3

unfoldable pub reduced : Float → Float
reduced x = rest x (of_int binary32 (turns x))

abbrev pub s1 : Float
s1 = neg (num 16666654611 100000000000)

abbrev pub s2 : Float
s2 = num 83321608736 10000000000000

abbrev pub s3 : Float
s3 = neg (num 19515295891 100000000000000)

-- S, of r and z = r times r
unfoldable pub sine_part : Float → Float → Float
sine_part r z = r ⊞ r ⊠ z ⊠ (s1 ⊞ z ⊠ (s2 ⊞ z ⊠ s3))

abbrev pub c1 : Float
c1 = num 41666645683 1000000000000

abbrev pub c2 : Float
c2 = neg (num 13887316255 10000000000000)

abbrev pub c3 : Float
c3 = num 24433157118 1000000000000000

-- C, of z
unfoldable pub cosine_part : Float → Float
cosine_part z = num 1 1 ⊟ z ⊘ num 2 1 ⊞ z ⊠ z ⊠ (c1 ⊞ z ⊠ (c2 ⊞ z ⊠ c3))

-- n modulo 4, never negative: negsuc k is -(k + 1)
abbrev pub quadrant_of : ℤ → ℕ
quadrant_of (pos k) = k % 4
quadrant_of (negsuc k) = 3 - k % 4

abbrev pub by_quadrant : ℕ → Float → Float → Float → Float → Float
by_quadrant q a b c d = cond (eqb q 0) a (cond (eqb q 1) b (cond (eqb q 2) c d))

unfoldable pub sine_at : ℕ → Float → Float → Float
sine_at q s c = by_quadrant q s c (neg s) (neg c)

unfoldable pub cosine_at : ℕ → Float → Float → Float
cosine_at q s c = by_quadrant q c (neg s) (neg c) s

-- one of the two, by what the reduction leaves: of n modulo 4, S and C
abbrev pub of_reduction : (ℕ → Float → Float → Float) → Float → Float
of_reduction f x = let r = reduced x in let z = r ⊠ r in cond (in_range x) (f (quadrant_of (turns x)) (sine_part r z) (cosine_part z)) nan

unfoldable pub sine : Float → Float
sine x = of_reduction sine_at x

unfoldable pub cosine : Float → Float
cosine x = of_reduction cosine_at x

-- both at once
abbrev pub sine_cosine_of : Float → SineCosine
sine_cosine_of x = record { sine = sine x; cosine = cosine x }

unfoldable pub tangent : Float → Float
tangent x = sine x ⊘ cosine x
