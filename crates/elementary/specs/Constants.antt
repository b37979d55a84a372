-- Section 1's decimal constants beside the bits of their nearest f32s, in one computed test. Assumes nothing.
use Rattle.std.specs.Prelude.{ℕ, ◌≡◌, Bool, true, ◌&&◌, List, [], ◌∷◌, T, eqb, Float}
use Rattle.std.proofs.Common.{sym, ap, ◌∙◌, eqb→eq}
use Rattle.std.specs.Float.{binary32}
use Rattle.std.specs.Float.Ieee.{fits, to_bits, of_bits, neg, round}
use Rattle.std.specs.Float.Ieee.Bits.{of_bits-to_bits}
use Rattle.std.specs.Float.Ieee.Fits.{and_l, and_r}
use Rattle.single.specs.Single.{num}
use Rattle.elementary.specs.Basic.{least_power}
use Rattle.elementary.specs.Trigonometric.{two_over_pi, piece1, piece2, piece3, limit, s1, s2, s3, c1, c2, c3}
use Rattle.elementary.specs.Arctangent.{a1, a2, a3, a4, upper, lower, half_pi, quarter_pi}
use Rattle.elementary.specs.Logarithm.{ln2, least_digits, digits_end, log10_of_e}

pub record Constant : Type 0 where
  pub value : Float
  pub bits : ℕ

abbrev pub ◌is◌ : Float → ℕ → Constant
x is b = record { value = x; bits = b }

infixl 8 ◌is◌
abbrev pub constants : List Constant
constants =
    (least_power is 0x3727c5ac)
    ∷ (two_over_pi is 0x3f22f983)
    ∷ (piece1 is 0x3fc90000)
    ∷ (piece2 is 0x39fd8000)
    ∷ (piece3 is 0x34a88000)
    ∷ (limit is 0x49800000)
    ∷ (s1 is 0xbe2aaaa3)
    ∷ (s2 is 0x3c08839e)
    ∷ (s3 is 0xb94ca1f9)
    ∷ (c1 is 0x3d2aaaa5)
    ∷ (c2 is 0xbab6061a)
    ∷ (c3 is 0x37ccf5ce)
    ∷ (a1 is 0x3da4f0d1)
    ∷ (a2 is 0x3e0e1b85)
    ∷ (a3 is 0x3e4c925f)
    ∷ (a4 is 0x3eaaaa2a)
    ∷ (upper is 0x401a8279)
    ∷ (lower is 0x3ed413cd)
    ∷ (half_pi is 0x3fc90fdb)
    ∷ (quarter_pi is 0x3f490fdb)
    ∷ (ln2 is 0x3f317218)
    ∷ (least_digits is 0x3f3504f3)
    ∷ (digits_end is 0x3fb504f3)
    ∷ (log10_of_e is 0x3ede5bd9)
    ∷ (num 1 3 is 0x3eaaaaab)
    ∷ (num 1 5 is 0x3e4ccccd)
    ∷ (num 1 7 is 0x3e124925)
    ∷ (num 1 9 is 0x3de38e39)
    ∷ []

-- a constant has its bits
unfoldable pub agrees : Constant → Bool
agrees c = fits binary32 c.value && eqb (to_bits binary32 c.value) c.bits

unfoldable pub all : List Constant → Bool
all [] = true
all (c ∷ cs) = agrees c && all cs

-- the test
pub constants_agree : T (all constants)
unfolding all agrees round to_bits fits neg
constants_agree = tt

-- what it says of each
pub constant_is : (c : Constant) → T (agrees c) → c.value ≡ of_bits binary32 c.bits
unfolding agrees
constant_is c t =
    let f = and_l (fits binary32 c.value) (eqb (to_bits binary32 c.value) c.bits) t in
    let e = eqb→eq (to_bits binary32 c.value) c.bits (and_r (fits binary32 c.value) (eqb (to_bits binary32 c.value) c.bits) t) in
    sym (of_bits-to_bits binary32 c.value f) ∙ ap (of_bits binary32) e
