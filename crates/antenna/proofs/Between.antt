-- MHz from the first to below the last are cut to a row from the first to below the last; from the last up they are not below the first.
-- Assumes nothing.
use Prim.Native.Nat.{ℕ, suc, ◌+◌, ◌-◌, ◌*◌, ◌/◌, ◌^◌, ◌<◌, ◌≤◌, min}
use mathlib.Core.Path.{◌≡◌, refl, sym, subst, ◌∙◌}
use mathlib.Core.Bool.{true, false}
use native.Mathlib.Omega.{arith}
use native.Mathlib.Nat.{le-div_iff_mul-le, div-lt_iff_lt-mul, mul-pos, mul-one, mul-le-mul_right}
use native.Mathlib.Nat.{lt_of_lt_of_le, lt_of_not-le, le_of_eq, le_trans}
use borrow.Author.Tests.{lt-ltb, le-ltb}
use lib.Dec.{T, eqb, eqb→eq, lit≤}
use lib.IntN.{ℤ, pos}
use lib.Ieee.{Float, nan, inf, fin, binary32, of_int, to_signed, up, down, lt, le, eq}
use lib.Ieee.Back.{round_whole}
use lib.Ieee.Bits.{is_true}
use lib.Ieee.Exact.{HasValue}
use lib.Ieee.Fits.{and_r, down_pos}
use lib.Ieee.Order.{le_of_values, transfer}
use Rattle.single.specs.Single.{whole}
use Rattle.single.proofs.Booleans.{holds}
use Rattle.single.proofs.Magnitude.{or-le}
use Rattle.single.proofs.Order.{ge_values, not_lt_values}
use Rattle.elementary.specs.Basic.{cut_toward}
use Rattle.limits.specs.Tests.{outside}
use Rattle.limits.proofs.Outside.{within_mag}
use Rattle.antenna.specs.Places.{clamped, next_of}

whole_value : (n : ℕ) → n ≤ 30 → HasValue (whole n) false n 1
unfolding of_int
whole_value n h = round_whole binary32 false n (le_trans h (lit≤ tt))

-- ---- a number below zero is below every positive one
positive_value : (n k : ℕ) (g e : ℤ) → 0 < n → HasValue (fin false k g) false n 1 → 0 < k * up g * down e
positive_value n k g e p v = mul-pos (lt_of_lt_of_le (mul-pos p (down_pos g)) (le_of_eq (sym v.1 ∙ mul-one (k * up g)))) (down_pos e)

minus_below : (m : ℕ) (e : ℤ) (y : Float) (n : ℕ) → 0 < n → HasValue y false n 1 → lt (fin true m e) y ≡ true
unfolding lt
minus_below m e nan n p v = absurd v
minus_below m e (inf s) n p v = absurd v
minus_below m e (fin true k g) n p v = absurd (subst T v.0 tt)
minus_below m e (fin false k g) n p v =
    let u : 0 < k * up g * down e = positive_value n k g e p v in
    lt-ltb 0 (m * up e * down g + k * up g * down e) (omega arith)

-- ---- the row
positive_cut : (m : ℕ) (e : ℤ) (low high : ℕ) → low * down e ≤ m * up e → m * up e < high * down e
    → (low ≤ m * up e / down e) × (m * up e / down e < high)
positive_cut m e low high l h = ((le-div_iff_mul-le (down_pos e)).1 l, (div-lt_iff_lt-mul (down_pos e)).1 h)

unclamped : (q low high : ℕ) → 1 ≤ low → low ≤ q → q < high → high ≤ 30
    → (clamped (pos (min q (2 ^ 31 - 1))) 30 ≡ q) × (next_of q 30 ≡ suc q)
unfolding clamped next_of
unclamped q low high a b c d =
    let s : min q (2 ^ 31 - 1) ≡ q = omega arith in
    rw (s, le-ltb q 1 (omega arith), lt-ltb q 30 (omega arith)) (refl, refl)

pub cut_between : (first last : ℕ) (fmc : Float) → 1 ≤ first → first ≤ 30 → last ≤ 30 → outside fmc ≡ false
    → lt fmc (whole first) ≡ false → le (whole last) fmc ≡ false
    → let i = clamped (cut_toward fmc) 30 in (first ≤ i) × (i < last) × (next_of i 30 ≡ suc i)
unfolding cut_toward to_signed
cut_between first last nan a a' b o l h = absurd (within_mag nan o)
cut_between first last (inf s) a a' b o l h = absurd (within_mag (inf s) o)
cut_between first last (fin true m e) a a' b o l h =
    absurd (subst T (sym (minus_below m e (whole first) first a (whole_value first a')) ∙ l) tt)
cut_between first last (fin false m e) a a' b o l h =
    let f : first * down e ≤ m * up e * 1 =
    ge_values (fin false m e) (whole first) (m * up e) (down e) first 1 (down_pos e) (lit≤ tt) (refl, refl) (whole_value first a') l in
    let q = positive_cut m e first last (le_trans f (le_of_eq (mul-one (m * up e)))) (lt_of_not-le not_above) in
    let p = unclamped (m * up e / down e) first last a q.0 q.1 b in
    rw p.0 (q.0, q.1, p.1)
  where
    not_above : last * down e ≤ m * up e → ⊥
    not_above k =
        let k : last * down e ≤ m * up e * 1 = le_trans k (le_of_eq (sym (mul-one (m * up e)))) in
        let w = whole_value last b in
        let t = le_of_values (whole last) (fin false m e) last 1 (m * up e) (down e) (lit≤ tt) (down_pos e) w (refl, refl) k in
        subst T (sym (is_true (le (whole last) (fin false m e)) t) ∙ h) tt

-- ---- from the last MHz up
at_least : (y : Float) (n : ℕ) (m : ℕ) (e : ℤ) → HasValue y false n 1 → T (le y (fin false m e)) → n * down e ≤ m * up e * 1
unfolding le lt eq
at_least nan n m e v h = absurd v
at_least (inf s) n m e v h = absurd v
at_least (fin true k g) n m e v h = absurd (subst T v.0 tt)
at_least (fin false k g) n m e v h =
    let l : k * up g * down e ≤ m * up e * down g = or-le (k * up g * down e) (m * up e * down g) h in
    transfer n (m * up e) 1 (down e) (k * up g) (m * up e) (down g) (down e) (down_pos g) (down_pos e) (sym v.1) refl l

not_at_least : (y : Float) (n : ℕ) (m : ℕ) (e : ℤ) → 0 < n → HasValue y false n 1 → T (le y (fin true m e)) → ⊥
unfolding le lt eq
not_at_least nan n m e p v h = absurd v
not_at_least (inf s) n m e p v h = absurd v
not_at_least (fin true k g) n m e p v h = absurd (subst T v.0 tt)
not_at_least (fin false k g) n m e p v h =
    let u : 0 < k * up g * down e = positive_value n k g e p v in
    let z : k * up g * down e ≡ 0 =
    eqb→eq (k * up g * down e) 0 (and_r (eqb (k * up g * down e) (m * up e * down g)) (eqb (k * up g * down e) 0) h) in
    omega arith

pub not_below_first : (first last : ℕ) (fmc : Float) → 1 ≤ first → first ≤ last → last ≤ 30 → outside fmc ≡ false
    → le (whole last) fmc ≡ true → lt fmc (whole first) ≡ false
not_below_first first last nan a b d o h = absurd (within_mag nan o)
not_below_first first last (inf s) a b d o h = absurd (within_mag (inf s) o)
not_below_first first last (fin true m e) a b d o h = absurd (not_at_least (whole last) last m e (omega arith) (whole_value last d) (holds h))
not_below_first first last (fin false m e) a b d o h =
    let w = whole_value first (omega arith) in
    not_lt_values (fin false m e) (whole first) (m * up e) (down e) first 1 (down_pos e) (lit≤ tt) (refl, refl) w
    (le_trans (mul-le-mul_right (down e) b) (at_least (whole last) last m e (whole_value last d) (holds h)))
