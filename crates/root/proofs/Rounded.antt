-- IEEE 754's square root, which the language's definition takes to 2271 binary places, is the root by whole numbers. Assumes nothing.
use mathlib.Core.Path.{◌≡◌, refl, sym, ap, ◌∙◌}
use mathlib.Core.Bool.{Bool, true, false, not, cond}
use mathlib.Core.Logic.{◌≢◌}
use Prim.Native.Nat.{ℕ, zero, suc, ◌+◌, ◌-◌, ◌*◌, ◌/◌, ◌%◌, ◌^◌, ◌≤◌, ◌<◌, compare, Ordering}
use native.Mathlib.Omega.{arith}
use native.Mathlib.Nat.{mul_assoc, mul_comm, mul_left_comm, mul_right_comm, mul-pos, mul-le-mul, mul-lt-mul_of_pos_right, mul-div_cancel, mod-add-div}
use native.Mathlib.Nat.{not-le_of_lt, le_refl, le_trans, le_of_eq, lt_of_lt_of_le, lt_of_le_of_lt, div-lt_iff_lt-mul, le-div_iff_mul-le, div-div-eq-div-mul}
use lib.Dec.{T, T_not, eqb, eqb→eq}
use lib.IntN.{ℤ}
use lib.Pow.{pow_pos}
use lib.Ieee.{Float, nan, inf, fin, binary32, size, nearest, units, round, sqrt, root_twice, root_below, fits, up, down}
use lib.Ieee.Fits.{down_pos, eq→eqb}
use lib.Ieee.Root.{whole_part}
use Rattle.single.specs.Single.{units_of, on_positive}
use Rattle.single.proofs.Compare.{Cmp, cmp}
use Rattle.single.proofs.Exact.{whole}
use Rattle.single.proofs.Value.{zero_exp}
use Rattle.root.specs.Root.{IsRoot, isqrt, root_units, root}
use Rattle.root.proofs.Whole.{isqrt_is, isqrt_of, square_lt}

-- ---- comparisons
pub same : (a b c d : ℕ) → (a < b → c < d) → (a ≡ b → c ≡ d) → (b < a → d < c) → compare a b ≡ compare c d
same a b c d f g h = go (compare a b) (compare c d) (cmp a b) (cmp c d)
  where
    go : (o p : Ordering) → Cmp o a b → Cmp p c d → o ≡ p
    go Ordering.lt Ordering.lt x y = refl
    go Ordering.lt Ordering.eq x y = absurd (not-le_of_lt (f x) (omega arith))
    go Ordering.lt Ordering.gt x y = absurd (not-le_of_lt (f x) (omega arith))
    go Ordering.eq Ordering.lt x y = absurd (not-le_of_lt y (let e = g x in omega arith))
    go Ordering.eq Ordering.eq x y = refl
    go Ordering.eq Ordering.gt x y = absurd (not-le_of_lt y (let e = g x in omega arith))
    go Ordering.gt Ordering.lt x y = absurd (not-le_of_lt (h x) (omega arith))
    go Ordering.gt Ordering.eq x y = absurd (not-le_of_lt (h x) (omega arith))
    go Ordering.gt Ordering.gt x y = refl

compare_scale : (a b c : ℕ) → 0 < c → compare (a * c) (b * c) ≡ compare a b
compare_scale a b c C =
    let eq : a ≡ b → a * c ≡ b * c = ap (λ (x : ℕ). x * c) in
    sym (same a b (a * c) (b * c) (λ h. mul-lt-mul_of_pos_right h C) eq (λ h. mul-lt-mul_of_pos_right h C))

square-lt : (a b : ℕ) → a < b → a * a < b * b
square-lt a b h = lt_of_le_of_lt (mul-le-mul (le_refl a) (let z : a ≤ b = omega arith in z)) (mul-lt-mul_of_pos_right h (let z : 0 < b = omega arith in z))

-- ---- twice the root of n, or the odd number above it, against an even number
abbrev twice : ℕ → ℕ → ℕ
twice n r = 2 * r + cond (eqb (r * r) n) 0 1

against : (n r p : ℕ) → IsRoot n r → compare (twice n r) (2 * p) ≡ compare n (p * p)
against n r p h = go (eqb (r * r) n) (eqb→eq (r * r) n) (λ (t : T (not (eqb (r * r) n))). λ (e : r * r ≡ n). T_not (eqb (r * r) n) t (eq→eqb e))
  where
    go : (b : Bool) → (T b → r * r ≡ n) → (T (not b) → r * r ≡ n → ⊥) → compare (2 * r + cond b 0 1) (2 * p) ≡ compare n (p * p)
    go true f g =
        let e : r * r ≡ n = f tt in
        same (2 * r + 0) (2 * p) n (p * p)
        (λ l. let q : r * r < p * p = square-lt r p (omega arith) in omega arith)
        (λ l. let q : r ≡ p = omega arith in sym e ∙ ap (λ (x : ℕ). x * x) q)
        (λ l. let q : p * p < r * r = square-lt p r (omega arith) in omega arith)
    go false f g =
        let w : r * r ≢ n = g tt in
        same (2 * r + 1) (2 * p) n (p * p)
        (λ l. let q : (r + 1) * (r + 1) ≤ p * p = (let z : r + 1 ≤ p = omega arith in mul-le-mul z z) in lt_of_lt_of_le h.high q)
        (λ l. absurd (let z : 2 * r + 1 ≡ 2 * p = l in omega arith))
        (λ l. let q : p * p ≤ r * r = (let z : p ≤ r = omega arith in mul-le-mul z z) in let lo : r * r ≤ n = h.low in omega arith)

-- ---- at more places
abbrev fraction : ℕ → ℕ → ℕ → Float
fraction m d k = units binary32 false (nearest (m / (d * 2 ^ k)) (compare (m % (d * 2 ^ k) * 2) (d * 2 ^ k))) k

sq : (a c : ℕ) → a * c * (a * c) ≡ a * a * (c * c)
sq a c = simp (mul_assoc, mul_left_comm)

div_is : (s q c : ℕ) → 0 < c → q * c ≤ s → s < (q + 1) * c → s / c ≡ q
div_is s q c C l h =
    let a : q ≤ s / c = (le-div_iff_mul-le C).1 l in
    let b : s / c < q + 1 = (div-lt_iff_lt-mul C).1 h in
    omega arith

-- twice a remainder against the divisor
remainder : (m u : ℕ) → 0 < u → compare (m % u * 2) u ≡ compare (2 * m) ((2 * (m / u) + 1) * u)
remainder m u U =
    let e : m % u + u * (m / u) ≡ m = mod-add-div m u in
    let p : u * (m / u) ≡ m / u * u = mul_comm u (m / u) in
    same (m % u * 2) u (2 * m) ((2 * (m / u) + 1) * u) (λ l. omega arith) (λ l. omega arith) (λ l. omega arith)

-- ---- the same products, written otherwise
mid_is : (o h l w : ℕ) → o * (2 * (2 * h) * l * w) ≡ 2 * (o * w * h) * (2 * l)
mid_is o h l w = omega arith

four : (x h : ℕ) → x * (2 * h * (2 * h)) ≡ 4 * x * (h * h)
four x h = omega arith

twice_lo : (n r : ℕ) → 2 * r ≤ twice n r
twice_lo n r = go (eqb (r * r) n)
  where
    go : (b : Bool) → 2 * r ≤ 2 * r + cond b 0 1
    go true = omega arith
    go false = omega arith

twice_hi : (n r : ℕ) → twice n r ≤ 2 * r + 1
twice_hi n r = go (eqb (r * r) n)
  where
    go : (b : Bool) → 2 * r + cond b 0 1 ≤ 2 * r + 1
    go true = omega arith
    go false = omega arith

module _ (x h l : ℕ) (H : 0 < h) (L : 0 < l) where
  abbrev c : ℕ
  c = 2 * h

  abbrev n : ℕ
  n = x * (c * c)

  abbrev r : ℕ
  r = isqrt n

  abbrev s : ℕ
  s = isqrt x

  abbrev m : ℕ
  m = twice n r * l

  abbrev d : ℕ
  d = 2 * c * l

  r_lo : s * c ≤ r
  r_lo =
      let at_most = le_trans (le_of_eq (sq s c)) (mul-le-mul (isqrt_is x).low (le_refl (c * c))) in
      let z : s * c < r + 1 = square_lt (s * c) (r + 1) (lt_of_le_of_lt at_most (isqrt_is n).high) in
      omega arith

  r_hi : r < (s + 1) * c
  r_hi =
      let c_pos : 0 < c * c = let z : 0 < c = omega arith in mul-pos z z in
      let below = lt_of_lt_of_le (mul-lt-mul_of_pos_right (isqrt_is x).high c_pos) (le_of_eq (sym (sq (s + 1) c))) in
      square_lt r ((s + 1) * c) (lt_of_le_of_lt (isqrt_is n).low below)

  pub places : m / d ≡ s
  places =
      let lo : s * (2 * c) ≤ twice n r = (let a = r_lo in let b = twice_lo n r in omega arith) in
      let hi : twice n r < (s + 1) * (2 * c) = (let a = r_hi in let b = twice_hi n r in omega arith) in
      div_is m s d (let z : 0 < 2 * c = omega arith in mul-pos z L)
      (le_trans (le_of_eq (sym (mul_assoc s (2 * c) l))) (mul-le-mul lo (le_refl l)))
      (lt_of_lt_of_le (mul-lt-mul_of_pos_right hi L) (le_of_eq (mul_assoc (s + 1) (2 * c) l)))

  pub at : (k : ℕ) → compare (m % (d * 2 ^ k) * 2) (d * 2 ^ k) ≡ compare (4 * x) ((2 * (s / 2 ^ k) + 1) * 2 ^ k * ((2 * (s / 2 ^ k) + 1) * 2 ^ k))
  at k =
      let w = 2 ^ k in
      let o = 2 * (s / w) + 1 in
      let p = o * w * h in
      let D : 0 < d = (let z : 0 < 2 * c = omega arith in mul-pos z L) in
      let q : m / (d * w) ≡ s / w = sym (div-div-eq-div-mul m d w) ∙ ap (λ (y : ℕ). y / w) places in
      remainder m (d * w) (mul-pos D (pow_pos k))
      ∙ ap (λ (y : ℕ). compare (2 * m) ((2 * y + 1) * (d * w))) q
      ∙ ap (λ (y : ℕ). compare y (o * (d * w))) (mul_left_comm 2 (twice n r) l)
      ∙ ap (compare (twice n r * (2 * l))) (mid_is o h l w)
      ∙ compare_scale (twice n r) (2 * p) (2 * l) (omega arith)
      ∙ against n r p (isqrt_is n)
      ∙ ap (λ (y : ℕ). compare y (p * p)) (four x h)
      ∙ ap (compare (4 * x * (h * h))) (sq (o * w) h)
      ∙ compare_scale (4 * x) (o * w * (o * w)) (h * h) (mul-pos H H)

  -- what `round` makes of this fraction
  pub rounded : fraction m d (size (m / d) - 24) ≡ root_units x
  unfolding root_units
  rounded =
      let k = size s - 24 in
      let q : m / (d * 2 ^ k) ≡ s / 2 ^ k = sym (div-div-eq-div-mul m d (2 ^ k)) ∙ ap (λ (y : ℕ). y / 2 ^ k) places in
      ap (λ (y : ℕ). fraction m d (size y - 24)) places
      ∙ ap (λ (y : ℕ). units binary32 false (nearest y (compare (m % (d * 2 ^ k) * 2) (d * 2 ^ k))) k) q
      ∙ ap (λ (o : Ordering). units binary32 false (nearest (s / 2 ^ k) o) k) (at k)

-- ---- the roots
twice_is : (n : ℕ) → root_twice n ≡ twice n (isqrt n)
unfolding root_twice
twice_is n = let w = whole_part n in ap (twice n) (sym (isqrt_of n (root_below (size n) n) (record { low = w.0; high = w.1 })))

root_of_units : (x : ℕ) → round binary32 false (root_twice (x * (2 ^ 2122 * 2 ^ 2122))) (2 ^ 2272) ≡ root_units x
unfolding round
root_of_units x =
    ap (λ (y : ℕ). round binary32 false y (2 ^ 2272)) (twice_is (x * (2 ^ 2122 * 2 ^ 2122)))
    ∙ rounded x (2 ^ 2121) (2 ^ 149) (pow_pos 2121) (pow_pos 149)

quotient : (a d n p q : ℕ) → 0 < d → a * p ≡ n * d → a * (p * q) / d ≡ n * q
quotient a d n p q D e = ap (λ (y : ℕ). y / d) (sym (mul_assoc a p q) ∙ ap (λ (y : ℕ). y * q) e ∙ mul_right_comm n d q) ∙ mul-div_cancel (n * q) D

sqrt_units : (m : ℕ) (e : ℤ) → T (fits binary32 (fin false (suc m) e))
    → sqrt binary32 (fin false (suc m) e) ≡ root_units (units_of (suc m) e * 2 ^ 149)
unfolding sqrt
sqrt_units k e f =
    let n = units_of (suc k) e in
    ap (λ (y : ℕ). round binary32 false (root_twice y) (2 ^ 2272))
    (quotient (suc k * up e) (down e) n (2 ^ 149) (2 ^ 149 * (2 ^ 2122 * 2 ^ 2122)) (down_pos e) (whole false k e f).2
    ∙ sym (mul_assoc n (2 ^ 149) (2 ^ 2122 * 2 ^ 2122)))
    ∙ root_of_units (n * 2 ^ 149)

pub sqrt_is : (y : Float) → T (fits binary32 y) → sqrt binary32 y ≡ root y
unfolding sqrt root on_positive
sqrt_is nan f = refl
sqrt_is (inf true) f = refl
sqrt_is (inf false) f = refl
sqrt_is (fin s zero e) f = ap (fin s 0) (sym (zero_exp binary32 s e f))
sqrt_is (fin true (suc m) e) f = refl
sqrt_is (fin false (suc m) e) f = sqrt_units m e f
