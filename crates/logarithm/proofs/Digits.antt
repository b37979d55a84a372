-- The digits and exponents that `ln_from` picks from: at another scale, and of a normal number by its pattern. Assumes nothing.
use mathlib.Core.Path.{◌≡◌, refl, sym, ap, subst, ◌∙◌}
use mathlib.Core.Bool.{true, false, cond}
use Prim.Native.Nat.{ℕ, suc, ◌+◌, ◌-◌, ◌*◌, ◌/◌, ◌%◌, ◌^◌, ◌≤◌, ◌<◌}
use native.Mathlib.Omega.{arith}
use native.Mathlib.Nat.{mul_assoc, mul_comm, mul_left_comm, lt_of_lt_of_le}
use lib.Dec.{lit<}
use lib.IntN.{ℤ}
use lib.Pow.{pow_pos, pow-add, pow_mono, shl_lt}
use lib.Ieee.{Float, binary32, minus, size, round, of_int, lt, of_bits}
use lib.Ieee.Bits.{of_bits-fits}
use lib.Ieee.Exact.{HasValue}
use lib.Ieee.Scale.{round_same}
use Rattle.single.proofs.Digits.{minus_shift, size_is, span, size_shift}
use Rattle.single.proofs.Order.{lt_values, not_lt_values}
use Rattle.single.proofs.Positive.{normal_units}
use Rattle.single.proofs.Value.{round_to, bits_normal, value_reduce}
use Rattle.logarithm.specs.Logarithm.{ln_at, ln_from, digits_end}

-- ---- the number as digits times a power, at another scale
mul_shift : (n k c : ℕ) → n * 2 ^ k * 2 ^ c ≡ n * 2 ^ (c + k)
mul_shift n k c = mul_assoc n (2 ^ k) (2 ^ c) ∙ ap (λ (x : ℕ). n * x) (mul_comm (2 ^ k) (2 ^ c) ∙ sym (pow-add 2 c k))

-- which of the two digits and exponents
abbrev pub pick : Float → Float → ℤ → ℤ → Float
pick m m' z z' = cond (lt m digits_end) (ln_at m (of_int binary32 z)) (ln_at m' (of_int binary32 z'))

pick_same : {m n m' n' : Float} {y z y' z' : ℤ} → m ≡ n → m' ≡ n' → y ≡ z → y' ≡ z' → pick m m' y y' ≡ pick n n' z z'
pick_same p q r s = λ i. pick (p i) (q i) (r i) (s i)

from_is : (n o : ℕ) → ln_from n o ≡ pick (round binary32 false n (2 ^ (size n - 1))) (round binary32 false n (2 ^ size n)) (minus (size n) o) (minus (suc (size n)) o)
unfolding ln_from
from_is n o = refl

pub from_digits : (n d o : ℕ) → size n ≡ d → ln_from n o ≡ pick (round binary32 false n (2 ^ (d - 1))) (round binary32 false n (2 ^ d)) (minus d o) (minus (suc d) o)
from_digits n d o e = from_is n o ∙ ap (λ (s : ℕ). pick (round binary32 false n (2 ^ (s - 1))) (round binary32 false n (2 ^ s)) (minus s o) (minus (suc s) o)) e

pub scaled : (n o : ℕ) → 0 < n → ln_from (n * 2 ^ 24) (o + 24) ≡ ln_from n o
scaled n o N =
    let s = span n N in
    let d = s.0 in
    let e1 : suc d + 24 - 1 ≡ d + 24 = omega arith in
    let e2 : suc d - 1 ≡ d = omega arith in
    let e3 : suc (suc d + 24) ≡ suc (suc d) + 24 = omega arith in
    from_digits (n * 2 ^ 24) (suc d + 24) (o + 24) (size_shift n 24 N ∙ ap (λ (x : ℕ). x + 24) s.1)
    ∙ pick_same
    (ap (λ (x : ℕ). round binary32 false (n * 2 ^ 24) (2 ^ x)) e1 ∙ two d ∙ ap (λ (x : ℕ). round binary32 false n (2 ^ x)) (sym e2))
    (two (suc d))
    (minus_shift (suc d) o 24)
    (ap (λ (x : ℕ). minus x (o + 24)) e3 ∙ minus_shift (suc (suc d)) o 24)
    ∙ sym (from_digits n (suc d) o s.1)
  where
    two : (d : ℕ) → round binary32 false (n * 2 ^ 24) (2 ^ (d + 24)) ≡ round binary32 false n (2 ^ d)
    two d = round_same binary32 false (n * 2 ^ 24) (2 ^ (d + 24)) n (2 ^ d) (pow_pos (d + 24)) (pow_pos d) (mul_shift n 24 d)

-- ---- the pattern with the exponent's field 1 + x and the digits t
field_value : (x t : ℕ) → suc x < 255 → t < 8388608 → HasValue (of_bits binary32 (suc x * 8388608 + t)) false ((8388608 + t) * 2 ^ x) (2 ^ 149)
field_value x t X h =
    let p = suc x * 8388608 + t in
    let e : p % 8388608 ≡ t = omega arith in
    let f : p / 8388608 - 1 ≡ x = omega arith in
    let v = bits_normal p (let z : 8388608 ≤ suc x * 8388608 + t = omega arith in z) (let z : suc x * 8388608 + t < 2139095040 = omega arith in z) in
    subst (λ (y : ℕ). HasValue (of_bits binary32 p) false ((8388608 + y) * 2 ^ x) (2 ^ 149)) e
    (subst (λ (y : ℕ). HasValue (of_bits binary32 p) false ((8388608 + p % 8388608) * 2 ^ y) (2 ^ 149)) f v)

-- ---- a normal number's pattern: the digits with two exponents of their own
module _ (b bias : ℕ) (l : 8388608 ≤ b) (h : b < 2139095040) where
  abbrev pub q : ℕ
  q = 8388608 + b % 8388608

  abbrev pub k : ℕ
  k = b / 8388608 - 1

  q_lo : 2 ^ 23 ≤ q
  q_lo = omega arith

  q_hi : q < 2 ^ 24
  q_hi = omega arith

  digits : size (q * 2 ^ k) ≡ 24 + k
  digits = size_shift q k (let z : 0 < q = omega arith in z) ∙ ap (λ (x : ℕ). x + k) (size_is q 23 q_lo q_hi)

  digit : (x c : ℕ) → suc x < 255 → x + c ≡ 149 → round binary32 false (q * 2 ^ k) (2 ^ (c + k)) ≡ of_bits binary32 (suc x * 8388608 + b % 8388608)
  digit x c X e =
      round_same binary32 false (q * 2 ^ k) (2 ^ (c + k)) (q * 2 ^ x) (2 ^ 149) (pow_pos (c + k)) (pow_pos 149)
      (ap (λ (y : ℕ). q * 2 ^ k * 2 ^ y) (sym e)
      ∙ ap (λ (y : ℕ). q * 2 ^ k * y) (pow-add 2 x c)
      ∙ mul_assoc q (2 ^ k) (2 ^ x * 2 ^ c)
      ∙ ap (λ (y : ℕ). q * y) (mul_left_comm (2 ^ k) (2 ^ x) (2 ^ c) ∙ ap (λ (y : ℕ). 2 ^ x * y) (mul_comm (2 ^ k) (2 ^ c) ∙ sym (pow-add 2 c k)))
      ∙ sym (mul_assoc q (2 ^ x) (2 ^ (c + k))))
      ∙ round_to (of_bits binary32 (suc x * 8388608 + b % 8388608)) false (q * 2 ^ x) (2 ^ 149) q x (of_bits-fits binary32 (suc x * 8388608 + b % 8388608)) (field_value x (b % 8388608) X (omega arith)) (pow_pos 149) q_hi
      (lt_of_lt_of_le (shl_lt 24 x q_hi) (pow_mono (let z : 24 + x ≤ 277 = omega arith in z))) refl

  pub from_normal : ln_from (normal_units b) (bias + 23) ≡ pick (of_bits binary32 (1065353216 + b % 8388608)) (of_bits binary32 (1056964608 + b % 8388608)) (minus (b / 8388608) bias) (minus (b / 8388608 + 1) bias)
  from_normal =
      let e1 : 24 + k - 1 ≡ 23 + k = omega arith in
      let e2 : 24 + k ≡ b / 8388608 + 23 = omega arith in
      let e3 : suc (24 + k) ≡ b / 8388608 + 1 + 23 = omega arith in
      from_digits (q * 2 ^ k) (24 + k) (bias + 23) digits
      ∙ pick_same
      (ap (λ (x : ℕ). round binary32 false (q * 2 ^ k) (2 ^ x)) e1 ∙ digit 126 23 (lit< tt) refl)
      (digit 125 24 (lit< tt) refl)
      (ap (λ (x : ℕ). minus x (bias + 23)) e2 ∙ minus_shift (b / 8388608) bias 23)
      (ap (λ (x : ℕ). minus x (bias + 23)) e3 ∙ minus_shift (b / 8388608 + 1) bias 23)

-- ---- which of the two, by the digits alone: 3,474,675 are 1.4142135's
pub end_value : HasValue digits_end false 11863283 (2 ^ 23)
unfolding round
end_value = (refl, refl)

digits_value : (t : ℕ) → t < 8388608 → HasValue (of_bits binary32 (1065353216 + t)) false (8388608 + t) (2 ^ 23)
digits_value t h = value_reduce (of_bits binary32 (1065353216 + t)) false (8388608 + t) (2 ^ 23) (2 ^ 126) (pow_pos 126) (field_value 126 t (lit< tt) h)

pub below_end : (t : ℕ) → t < 3474675 → lt (of_bits binary32 (1065353216 + t)) digits_end ≡ true
below_end t h = lt_values (of_bits binary32 (1065353216 + t)) digits_end (8388608 + t) (2 ^ 23) 11863283 (2 ^ 23) (pow_pos 23) (pow_pos 23) (digits_value t (omega arith)) end_value (omega arith)

pub from_end : (t : ℕ) → t < 8388608 → 3474675 ≤ t → lt (of_bits binary32 (1065353216 + t)) digits_end ≡ false
from_end t l h = not_lt_values (of_bits binary32 (1065353216 + t)) digits_end (8388608 + t) (2 ^ 23) 11863283 (2 ^ 23) (pow_pos 23) (pow_pos 23) (digits_value t l) end_value (omega arith)
