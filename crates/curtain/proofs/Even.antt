-- Even whole numbers among the f32s: the remainder by 2 is zero where the whole part is all of the number and even, and from 2 ^ 24 on. Assumes nothing.
use mathlib.Core.Path.{◌≡◌, refl, sym, ap, subst, ◌∙◌}
use mathlib.Core.Bool.{Bool, true, false, ◌&&◌}
use Prim.Native.Nat.{ℕ, zero, suc, ◌+◌, ◌-◌, ◌*◌, ◌/◌, ◌%◌, ◌^◌, ◌≤◌, ◌<◌, min}
use native.Mathlib.Omega.{arith}
use native.Mathlib.Nat.{mul-one, mul_assoc, mul_right_comm, mul-pos, mul-mod_left, div-add-mod', zero-mul, add-zero, div-lt_iff_lt-mul, eq_of_mul-eq-mul_right, lt_irrefl, lt_of_lt_of_le, mul-lt-mul_of_pos_right, pow-suc, zero-lt-suc}
use borrow.Author.Tests.{eqb-true, ltb-true, ltb-false, eq-eqb, ne_eqb, both_ways}
use lib.Arith.{mod-mul}
use lib.Dec.{T, eqb, ltb, leb, eqb→eq, leb→le, lit≤}
use lib.IntN.{ℤ, pos, negsuc}
use lib.Pow.{pow_pos}
use lib.Signed.{rem_z}
use lib.Ieee.{Float, nan, inf, fin, binary32, up, down, round, fits, neg, rem, lt, le, eq, to_signed}
use lib.Ieee.Exact.{HasValue, round_exact}
use lib.Ieee.Fits.{and_l, and_r, down_pos}
use lib.Ieee.Order.{round_mono}
use lib.Ieee.Scale.{round_same}
use mir.Syntax.{w32}
use mir.Val.{of_z, to_z}
use mir.ValLaws.{to_z-of_z}
use Rattle.std.specs.Float.{trunc, round_with, float_is_finite}
use Rattle.single.specs.Single.{num}
use Rattle.single.proofs.Booleans.{holds, and_left}
use Rattle.single.proofs.Exact.{digits_small}
use Rattle.single.proofs.Integers.{within}
use Rattle.single.proofs.Magnitude.{or-le}
use Rattle.single.proofs.Value.{round_neg, zero_exp}
use Rattle.elementary.specs.Basic.{absolute, cut_toward}

-- 0, the least f32 above it, and 2 ^ 24
abbrev none : Float
none = fin false 0 (pos 0)

abbrev least : Float
least = fin false 1 (negsuc 148)

abbrev high : Float
high = fin false 1 (pos 24)

-- ---- a remainder that is not zero is no zero as rounded
not_none : (y : Float) → T (le least y) → (eq y none ≡ false) × (eq (neg y) none ≡ false)
unfolding le lt eq neg
not_none nan h = (refl, refl)
not_none (inf s) h = (refl, refl)
not_none (fin true m e) h = absurd (lt_irrefl 0 (subst (λ (x : ℕ). 0 < x) (eqb→eq (1 * 1 * down e) 0 (and_r (eqb (1 * 1 * down e) (m * up e * 2 ^ 149)) (eqb (1 * 1 * down e) 0) h)) (let d : 0 < down e = down_pos e in omega arith)))
not_none (fin false m e) h =
    let l : 1 * 1 * down e ≤ m * up e * 2 ^ 149 = or-le (1 * 1 * down e) (m * up e * 2 ^ 149) h in
    let d : 0 < down e = down_pos e in
    let z : 0 * 1 * down e ≡ 0 = zero-mul (down e) in
    let n : eqb (m * up e * 1) (0 * 1 * down e) ≡ false = ne_eqb (m * up e * 1) (0 * 1 * down e) (λ (q : m * up e * 1 ≡ 0 * 1 * down e). let y : m * up e ≡ 0 = omega arith in lt_irrefl 0 (omega arith)) in
    (ap (λ (b : Bool). b && true) n, ap (λ (b : Bool). b && eqb (m * up e * 1) 0) n)

least_is : round binary32 false 1 (2 ^ 149) ≡ least
unfolding round
least_is = refl

zero_is : (s : Bool) → eq (round binary32 s 0 1) none ≡ true
unfolding round eq
zero_is true = refl
zero_is false = refl

level_zero : (s : Bool) (a b : ℕ) → 0 < b → b ≤ 2 ^ 149 → eq (round binary32 s a b) none ≡ eqb a 0
level_zero s zero b B h = ap (λ (x : Float). eq x none) (round_same binary32 s 0 b 0 1 B (zero-lt-suc 0) (sym (zero-mul b))) ∙ zero_is s
level_zero s (suc a) b B h = go s ∙ sym none_no
  where
    above : T (le least (round binary32 false (suc a) b))
    above = subst (λ (x : Float). T (le x (round binary32 false (suc a) b))) least_is (round_mono binary32 1 (2 ^ 149) (suc a) b (pow_pos 149) B (omega arith))

    none_no : eqb (suc a) 0 ≡ false
    none_no = ne_eqb (suc a) 0 (λ (q : suc a ≡ 0). lt_irrefl 0 (omega arith))

    go : (t : Bool) → eq (round binary32 t (suc a) b) none ≡ false
    go false = (not_none (round binary32 false (suc a) b) above).0
    go true = subst (λ (x : Float). eq x none ≡ false) (round_neg false (suc a) b) (not_none (round binary32 false (suc a) b) above).1

two_is : num 2 1 ≡ fin false 1 (pos 1)
unfolding round
two_is = refl

none_is : num 0 1 ≡ none
unfolding round
none_is = refl

down_least : (s : Bool) (m : ℕ) (e : ℤ) → T (fits binary32 (fin s m e)) → down e ≤ 2 ^ 149
unfolding fits
down_least s zero e f = subst (λ (z : ℤ). down z ≤ 2 ^ 149) (sym (zero_exp binary32 s e f)) (lit≤ tt)
down_least s (suc m) e f =
    let digits = eqb (suc m % 2) 1 && ltb (suc m) (2 ^ 24) in
    leb→le (down e) (2 ^ 149) (and_r digits (leb (down e) (2 ^ 149)) (and_l (digits && leb (down e) (2 ^ 149)) (ltb (suc m * up e) (2 ^ 128 * down e)) f))

abbrev pub even : Float → Bool
even x = eq (rem binary32 x (num 2 1)) (num 0 1)

pub even_is : (s : Bool) (m : ℕ) (e : ℤ) → T (fits binary32 (fin s m e)) → even (fin s m e) ≡ eqb (m * up e % (2 * down e)) 0
even_is s m e f =
    let d : 0 < down e = down_pos e in
    let l : down e ≤ 2 ^ 149 = down_least s m e f in
    let by_two : eq (rem binary32 (fin s m e) (fin false 1 (pos 1))) none ≡ eqb (m * up e * 1 % (1 * 2 ^ 1 * down e)) 0 = unfold rem in level_zero s (m * up e * 1 % (1 * 2 ^ 1 * down e)) (down e * 1) (omega arith) (omega arith) in
    ap (λ (x : Float). eq (rem binary32 (fin s m e) x) (num 0 1)) two_is
    ∙ ap (λ (x : Float). eq (rem binary32 (fin s m e) (fin false 1 (pos 1))) x) none_is
    ∙ by_two
    ∙ ap (λ (x : ℕ). eqb (x % (2 * down e)) 0) (mul-one (m * up e))

-- ---- the whole part of a number below 2 ^ 24, and `y` that is a whole number
module _ (m : ℕ) (e : ℤ) where
  abbrev N : ℕ
  N = m * up e

  abbrev D : ℕ
  D = down e

  small_part : lt (fin false m e) high ≡ true → N / D < 2 ^ 24
  unfolding lt
  small_part h =
      let l : N * 1 < 1 * 2 ^ 24 * D = ltb-true (N * 1) (1 * 2 ^ 24 * D) h in
      (div-lt_iff_lt-mul {k = D} {x = N} {y = 2 ^ 24} (down_pos e)).1 (omega arith)

  trunc_value : N / D < 2 ^ 24 → HasValue (trunc binary32 (fin false m e)) false (N / D) 1
  unfolding round_with
  trunc_value h = round_exact binary32 false (N / D) 1 (N / D) 149 (zero-lt-suc 0) h (lt_of_lt_of_le (mul-lt-mul_of_pos_right h (pow_pos 149)) (lit≤ tt)) (sym (mul-one (N / D * 2 ^ 149)))

  cut_part : N / D < 2 ^ 24 → cut_toward (fin false m e) ≡ pos (N / D)
  unfolding cut_toward to_signed
  cut_part h = ap pos (let z : min (N / D) (2 ^ 31 - 1) ≡ N / D = omega arith in z)

  same : (y : Float) (q : ℕ) → HasValue y false q 1 → eq y (fin false m e) ≡ true → q * D ≡ N
  unfolding eq
  same nan q v h = absurd v
  same (inf s) q v h = absurd v
  same (fin true n d) q v h = absurd (subst T v.0 tt)
  same (fin false n d) q v h =
      eq_of_mul-eq-mul_right (down d) (down_pos d) (q * D) N
      (mul_right_comm q D (down d) ∙ ap (λ (x : ℕ). x * D) (sym v.1 ∙ mul-one (n * up d)) ∙ eqb-true (n * up d * D) (N * down d) (and_left (eqb (n * up d * D) (N * down d)) true h))

  differ : (y : Float) (q : ℕ) → HasValue y false q 1 → eq y (fin false m e) ≡ false → q * D ≡ N → ⊥
  unfolding eq
  differ nan q v h g = absurd v
  differ (inf s) q v h g = absurd v
  differ (fin true n d) q v h g = absurd (subst T v.0 tt)
  differ (fin false n d) q v h g =
      let l : n * up d * D ≡ N * down d = ap (λ (x : ℕ). x * D) (sym (mul-one (n * up d)) ∙ v.1) ∙ mul_right_comm q (down d) D ∙ ap (λ (x : ℕ). x * down d) g in
      both_ways (eqb (n * up d * D) (N * down d) && true) h (ap (λ (b : Bool). b && true) (eq-eqb (n * up d * D) (N * down d) l))

-- ---- the remainder by twice d
none_left : (a r n : ℕ) → a + r ≡ n → a ≡ n → r ≡ 0
none_left a r n h g = omega arith

none_both : (a r : ℕ) → a + r ≡ 0 → r ≡ 0
none_both a r h = omega arith

times_none : (r d : ℕ) → 0 < d → eqb r 0 ≡ eqb (r * d) 0
times_none zero d D = ap (λ (x : ℕ). eqb x 0) (sym (zero-mul d))
times_none (suc r) d D =
    ne_eqb (suc r) 0 (λ (q : suc r ≡ 0). lt_irrefl 0 (omega arith))
    ∙ sym (ne_eqb (suc r * d) 0 (λ (q : suc r * d ≡ 0). lt_irrefl 0 (subst (λ (x : ℕ). 0 < x) q (mul-pos (zero-lt-suc r) D))))

module _ (n d : ℕ) (D : 0 < d) where
  halves : n % (2 * d) ≡ n / d % 2 * d + n % d
  halves = mod-mul n {m = 2} {c = d} (zero-lt-suc 1) D

  whole_even : n / d * d ≡ n → eqb (n / d % 2) 0 ≡ eqb (n % (2 * d)) 0
  whole_even h =
      let z : n % d ≡ 0 = none_left (n / d * d) (n % d) n (div-add-mod' n d) h in
      times_none (n / d % 2) d D ∙ ap (λ (x : ℕ). eqb x 0) (sym (halves ∙ ap (λ (x : ℕ). n / d % 2 * d + x) z ∙ add-zero (n / d % 2 * d)))

  part_odd : (n / d * d ≡ n → ⊥) → eqb (n % (2 * d)) 0 ≡ false
  part_odd h =
      ne_eqb (n % (2 * d)) 0 (λ (q : n % (2 * d) ≡ 0).
      let z : n % d ≡ 0 = none_both (n / d % 2 * d) (n % d) (sym halves ∙ q) in
      h (sym (add-zero (n / d * d)) ∙ ap (λ (x : ℕ). n / d * d + x) (sym z) ∙ div-add-mod' n d))

-- ---- from 2 ^ 24 on
large : (m : ℕ) (e : ℤ) → T (fits binary32 (fin false m e)) → lt (fin false m e) high ≡ false → m * up e % (2 * down e) ≡ 0
unfolding lt
large m e f h = go m e f (ltb-false (m * up e * 1) (1 * 2 ^ 24 * down e) h)
  where
    go : (n : ℕ) (d : ℤ) → T (fits binary32 (fin false n d)) → 1 * 2 ^ 24 * down d ≤ n * up d * 1 → n * up d % (2 * down d) ≡ 0
    go zero d g l = absurd (let z : 0 * up d ≡ 0 = zero-mul (up d) in let p : 0 < down d = down_pos d in lt_irrefl 0 (omega arith))
    go (suc n) (pos zero) g l = absurd (let z : suc n < 2 ^ 24 = digits_small false n (pos zero) g in lt_irrefl 0 (omega arith))
    go (suc n) (negsuc k) g l = absurd (let z : suc n < 2 ^ 24 = digits_small false n (negsuc k) g in let p : 0 < 2 ^ suc k = pow_pos (suc k) in lt_irrefl 0 (omega arith))
    go (suc n) (pos (suc k)) g l = ap (λ (x : ℕ). suc n * x % 2) (pow-suc 2 k) ∙ ap (λ (x : ℕ). x % 2) (sym (mul_assoc (suc n) (2 ^ k) 2)) ∙ mul-mod_left (suc n * 2 ^ k) 2

-- ---- by the tests that the code makes, on the magnitude
remainder : (q : ℕ) → q < 2 ^ 24 → of_z w32 (rem_z (to_z w32 (of_z w32 (pos q))) (pos 2)) ≡ q % 2
remainder q h = ap (λ (z : ℤ). of_z w32 (rem_z z (pos 2))) (to_z-of_z w32 (pos q) (within w32 (pos q) (lt_of_lt_of_le h (lit≤ tt))))

pub even_whole : (x : Float) → T (fits binary32 x) → lt (absolute x) high ≡ true → eq (trunc binary32 (absolute x)) (absolute x) ≡ true
    → eqb (of_z w32 (rem_z (to_z w32 (of_z w32 (cut_toward (absolute x)))) (pos 2))) 0 ≡ even x
unfolding absolute lt
even_whole nan f h g = absurd (holds h)
even_whole (inf s) f h g = absurd (holds h)
even_whole (fin s m e) f h g =
    let l = small_part m e h in
    ap (λ (z : ℤ). eqb (of_z w32 (rem_z (to_z w32 (of_z w32 z)) (pos 2))) 0) (cut_part m e l)
    ∙ ap (λ (n : ℕ). eqb n 0) (remainder (m * up e / down e) l)
    ∙ whole_even (m * up e) (down e) (down_pos e) (same m e (trunc binary32 (fin false m e)) (m * up e / down e) (trunc_value m e l) g)
    ∙ sym (even_is s m e f)

pub part_not_even : (x : Float) → T (fits binary32 x) → lt (absolute x) high ≡ true → eq (trunc binary32 (absolute x)) (absolute x) ≡ false → even x ≡ false
unfolding absolute lt
part_not_even nan f h g = absurd (holds h)
part_not_even (inf s) f h g = absurd (holds h)
part_not_even (fin s m e) f h g =
    even_is s m e f ∙ part_odd (m * up e) (down e) (down_pos e) (differ m e (trunc binary32 (fin false m e)) (m * up e / down e) (trunc_value m e (small_part m e h)) g)

pub even_large : (x : Float) → T (fits binary32 x) → T (fits binary32 (absolute x)) → lt (absolute x) high ≡ false → float_is_finite (absolute x) ≡ even x
unfolding absolute float_is_finite eq rem lt
even_large nan f a h = refl
even_large (inf s) f a h = refl
even_large (fin s m e) f a h = sym (even_is s m e f ∙ ap (λ (n : ℕ). eqb n 0) (large m e a h))
