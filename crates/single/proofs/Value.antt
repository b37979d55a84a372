-- Floats by their values: two that fit and have one value are one float; a fraction that an f32 holds is rounded to it; the values of bit patterns; the sign of a rounding. Assumes nothing.
use mathlib.Core.Path.{◌≡◌, refl, sym, ap, subst, ◌∙◌}
use mathlib.Core.Bool.{Bool, true, false, not, cond, ◌&&◌}
use Prim.Native.Nat.{ℕ, zero, suc, ◌+◌, ◌-◌, ◌*◌, ◌/◌, ◌%◌, ◌^◌, ◌≤◌, ◌<◌}
use native.Mathlib.Omega.{arith}
use native.Mathlib.Nat.{mul-one, one-mul, zero-mul, mul_assoc, mul_left_comm, mul_right_comm, mul-pos, pow-succ', pow-suc, zero-lt-suc, lt_irrefl, eq_of_mul-eq-mul_right, mod-eq_of_lt, not-le_of_lt}
use lib.Dec.{T, leb, ltb, eqb, eqb→eq, leb→le, not_T}
use lib.IntN.{ℤ, pos, negsuc}
use lib.Pow.{pow_pos, pow-add}
use lib.Ieee.{Float, nan, inf, fin, Format, binary32, prec, emax, low, up, down, fits, round, units, odd, neg, of_bits, of_fields}
use lib.Ieee.Bits.{is_false, cond_no}
use lib.Ieee.Fits.{and_l, up_pos, down_pos, round_is, round-fits}
use lib.Ieee.Exact.{HasValue, odd_sign, round_exact}

-- ---- one value, one float

even_odd : (m t : ℕ) → m % 2 ≡ 1 → m ≡ 2 * t → ⊥
even_odd m t o h = omega arith

odd_pow : (m n a b : ℕ) → m % 2 ≡ 1 → n % 2 ≡ 1 → m * 2 ^ a ≡ n * 2 ^ b → (m ≡ n) × (a ≡ b)
odd_pow m n zero zero o p h = (sym (mul-one m) ∙ h ∙ mul-one n, refl)
odd_pow m n zero (suc b) o p h = absurd (even_odd m (n * 2 ^ b) o (sym (mul-one m) ∙ h ∙ ap (λ (x : ℕ). n * x) (pow-succ' 2 b) ∙ mul_left_comm n 2 (2 ^ b)))
odd_pow m n (suc a) zero o p h = absurd (even_odd n (m * 2 ^ a) p (sym (mul-one n) ∙ sym h ∙ ap (λ (x : ℕ). m * x) (pow-succ' 2 a) ∙ mul_left_comm m 2 (2 ^ a)))
odd_pow m n (suc a) (suc b) o p h =
    let r = odd_pow m n a b o p (eq_of_mul-eq-mul_right 2 (zero-lt-suc 1) (m * 2 ^ a) (n * 2 ^ b)
    (mul_assoc m (2 ^ a) 2 ∙ ap (λ (x : ℕ). m * x) (sym (pow-suc 2 a)) ∙ h ∙ ap (λ (x : ℕ). n * x) (pow-suc 2 b) ∙ sym (mul_assoc n (2 ^ b) 2))) in
    (r.0, ap suc r.1)

is_odd : (f : Format) (s : Bool) (m : ℕ) (e : ℤ) → T (fits f (fin s (suc m) e)) → suc m % 2 ≡ 1
unfolding fits
is_odd f s m e t =
    eqb→eq (suc m % 2) 1 (and_l (eqb (suc m % 2) 1) (ltb (suc m) (2 ^ prec f)) (and_l (eqb (suc m % 2) 1 && ltb (suc m) (2 ^ prec f)) (leb (down e) (2 ^ low f))
    (and_l (eqb (suc m % 2) 1 && ltb (suc m) (2 ^ prec f) && leb (down e) (2 ^ low f)) (ltb (suc m * up e) (2 ^ suc (emax f) * down e)) t)))

two_up : (p : ℕ) → 0 < p → 2 * p ≡ 1 → ⊥
two_up p h e = omega arith

flat : (e : ℤ) → up e * down e ≡ 1 → e ≡ pos 0
flat (pos zero) h = refl
flat (pos (suc k)) h = absurd (two_up (2 ^ k) (pow_pos k) (sym (pow-succ' 2 k) ∙ sym (mul-one (2 ^ suc k)) ∙ h))
flat (negsuc k) h = absurd (two_up (2 ^ k) (pow_pos k) (sym (pow-succ' 2 k) ∙ sym (one-mul (2 ^ suc k)) ∙ h))

pub zero_exp : (f : Format) (s : Bool) (e : ℤ) → T (fits f (fin s zero e)) → e ≡ pos 0
unfolding fits
zero_exp f s e t = flat e (eqb→eq (up e * down e) 1 t)

-- the two values, without the fraction
level : (p d q g a c : ℕ) → 0 < c → p * c ≡ a * d → q * c ≡ a * g → p * g ≡ q * d
level p d q g a c C v w =
    eq_of_mul-eq-mul_right c C (p * g) (q * d)
    (mul_right_comm p g c ∙ ap (λ (x : ℕ). x * g) v ∙ mul_right_comm a d g ∙ ap (λ (x : ℕ). x * d) (sym w) ∙ mul_right_comm q c d)

same_exp : (m n : ℕ) (e g : ℤ) → m % 2 ≡ 1 → n % 2 ≡ 1 → m * up e * down g ≡ n * up g * down e → (m ≡ n) × (e ≡ g)
same_exp m n (pos a) (pos b) o p h = let r = odd_pow m n a b o p (sym (mul-one (m * 2 ^ a)) ∙ h ∙ mul-one (n * 2 ^ b)) in (r.0, ap pos r.1)
same_exp m n (negsuc a) (negsuc b) o p h =
    let r = odd_pow m n (suc b) (suc a) o p (ap (λ (x : ℕ). x * 2 ^ suc b) (sym (mul-one m)) ∙ h ∙ ap (λ (x : ℕ). x * 2 ^ suc a) (mul-one n)) in
    (r.0, ap negsuc (sym (let q : suc b ≡ suc a = r.1 in let z : b ≡ a = omega arith in z)))
same_exp m n (pos a) (negsuc b) o p h =
    let r = odd_pow m n (a + suc b) 0 o p (ap (λ (x : ℕ). m * x) (pow-add 2 a (suc b)) ∙ sym (mul_assoc m (2 ^ a) (2 ^ suc b)) ∙ h ∙ mul-one (n * 1)) in
    absurd (let q : a + suc b ≡ 0 = r.1 in let z : ◌≡◌ {A = ℕ} 0 1 = omega arith in omega arith)
same_exp m n (negsuc a) (pos b) o p h =
    let r = odd_pow n m (b + suc a) 0 p o (ap (λ (x : ℕ). n * x) (pow-add 2 b (suc a)) ∙ sym (mul_assoc n (2 ^ b) (2 ^ suc a)) ∙ sym h ∙ mul-one (m * 1)) in
    absurd (let q : b + suc a ≡ 0 = r.1 in let z : ◌≡◌ {A = ℕ} 0 1 = omega arith in omega arith)

vanish : (m u g : ℕ) → 0 < u → 0 < g → suc m * u * g ≡ 0 → ⊥
vanish m u g U G h = lt_irrefl 0 (subst (λ (x : ℕ). 0 < x) h (mul-pos (mul-pos (zero-lt-suc m) U) G))

nothing : (u d : ℕ) → zero * u * d ≡ 0
nothing u d = ap (λ (y : ℕ). y * d) (zero-mul u) ∙ zero-mul d

pub value_unique : (f : Format) (x y : Float) (s : Bool) (a c : ℕ) → 0 < c → T (fits f x) → T (fits f y) → HasValue x s a c → HasValue y s a c → x ≡ y
value_unique f nan y s a c C p q v w = absurd v
value_unique f (inf t) y s a c C p q v w = absurd v
value_unique f (fin t m e) nan s a c C p q v w = absurd w
value_unique f (fin t m e) (inf u) s a c C p q v w = absurd w
value_unique f (fin t zero e) (fin u zero g) s a c C p q v w = λ i. fin ((v.0 ∙ sym w.0) i) zero ((zero_exp f t e p ∙ sym (zero_exp f u g q)) i)
value_unique f (fin t zero e) (fin u (suc n) g) s a c C p q v w = absurd (vanish n (up g) (down e) (up_pos g) (down_pos e) (sym (level (zero * up e) (down e) (suc n * up g) (down g) a c C v.1 w.1) ∙ nothing (up e) (down g)))
value_unique f (fin t (suc m) e) (fin u zero g) s a c C p q v w = absurd (vanish m (up e) (down g) (up_pos e) (down_pos g) (level (suc m * up e) (down e) (zero * up g) (down g) a c C v.1 w.1 ∙ nothing (up g) (down e)))
value_unique f (fin t (suc m) e) (fin u (suc n) g) s a c C p q v w =
    let r = same_exp (suc m) (suc n) e g (is_odd f t m e p) (is_odd f u n g q) (level (suc m * up e) (down e) (suc n * up g) (down g) a c C v.1 w.1) in
    λ i. fin ((v.0 ∙ sym w.0) i) (r.0 i) (r.1 i)

-- one float, one value
pub value_same : (x : Float) (s : Bool) (a b c : ℕ) → HasValue x s a c → HasValue x s b c → a ≡ b
value_same nan s a b c v w = absurd v
value_same (inf t) s a b c v w = absurd v
value_same (fin t m e) s a b c v w = eq_of_mul-eq-mul_right (down e) (down_pos e) a b (sym v.1 ∙ w.1)

-- a fraction that is the value of an f32 is rounded to that f32. q * 2 ^ j is the fraction in units of 2 ^ -149
pub round_to : (y : Float) (s : Bool) (a c q j : ℕ) → T (fits binary32 y) → HasValue y s a c → 0 < c → q < 2 ^ 24 → q * 2 ^ j < 2 ^ 277 → a * 2 ^ 149 ≡ q * 2 ^ j * c → round binary32 s a c ≡ y
round_to y s a c q j p v C Q J e = value_unique binary32 (round binary32 s a c) y s a c C (round-fits binary32 s a c) p (round_exact binary32 s a c q j C Q J e) v

-- ---- the sign of a rounding
odd_neg : (d : ℕ) (s : Bool) (q k l : ℕ) → neg (odd d s q k l) ≡ odd d (not s) q k l
unfolding odd neg
odd_neg d s zero k l = refl
odd_neg d s (suc q) k l = refl

units_neg : (s : Bool) (q k : ℕ) → neg (units binary32 s q k) ≡ units binary32 (not s) q k
unfolding units
units_neg s q k = go (ltb (q * 2 ^ k) (2 ^ (149 + 128)))
  where
    go : (b : Bool) → neg (cond b (odd 25 s q k 149) (inf s)) ≡ cond b (odd 25 (not s) q k 149) (inf (not s))
    go true = odd_neg 25 s q k 149
    go false = unfold neg in refl

pub round_neg : (s : Bool) (a b : ℕ) → neg (round binary32 s a b) ≡ round binary32 (not s) a b
round_neg s a b = ap neg (round_is binary32 s a b) ∙ units_neg s _ _ ∙ sym (round_is binary32 (not s) a b)

-- ---- bit patterns
pub of_bits_is : (b : ℕ) → of_bits binary32 b ≡ of_fields binary32 (leb 2147483648 b) (b % 2147483648 / 8388608) (b % 8388608)
unfolding of_bits
of_bits_is b = refl

differ : (x : ℕ) → suc x < 255 → suc x ≡ 255 → ⊥
differ x h e = omega arith

under_ones : (t x : ℕ) → suc x < 255 → of_fields binary32 false (suc x) t ≡ odd 24 false (8388608 + t) x 149
unfolding of_fields
under_ones t x h = cond_no (eqb (suc x) 255) (cond (eqb t 0) (inf false) nan) (odd 24 false (8388608 + t) x 149) (not_T (eqb (suc x) 255) (λ (u : T (eqb (suc x) 255)). differ x h (eqb→eq (suc x) 255 u)))

at_zero : (t : ℕ) → of_fields binary32 false zero t ≡ odd 24 false t 0 149
unfolding of_fields
at_zero t = refl

at_ones : (t : ℕ) → of_fields binary32 false 255 t ≡ cond (eqb t 0) (inf false) nan
unfolding of_fields
at_ones t = refl

-- below 2 ^ 31 the sign is plus
pub plain : (b : ℕ) → b < 2147483648 → of_bits binary32 b ≡ of_fields binary32 false (b / 8388608) (b % 8388608)
plain b h =
    of_bits_is b
    ∙ ap (λ (s : Bool). of_fields binary32 s (b % 2147483648 / 8388608) (b % 8388608)) (is_false (leb 2147483648 b) (not_T (leb 2147483648 b) (λ (u : T (leb 2147483648 b)). not-le_of_lt h (leb→le 2147483648 b u))))
    ∙ ap (λ (x : ℕ). of_fields binary32 false (x / 8388608) (b % 8388608)) (mod-eq_of_lt h)

-- a normal number's pattern
pub bits_normal : (b : ℕ) → 8388608 ≤ b → b < 2139095040 → HasValue (of_bits binary32 b) false ((8388608 + b % 8388608) * 2 ^ (b / 8388608 - 1)) (2 ^ 149)
bits_normal b h k =
    let e : suc (b / 8388608 - 1) ≡ b / 8388608 = omega arith in
    let l : suc (b / 8388608 - 1) < 255 = omega arith in
    let s : b < 2147483648 = omega arith in
    subst (λ (x : Float). HasValue x false ((8388608 + b % 8388608) * 2 ^ (b / 8388608 - 1)) (2 ^ 149))
    (sym (plain b s ∙ ap (λ (x : ℕ). of_fields binary32 false x (b % 8388608)) (sym e) ∙ under_ones (b % 8388608) (b / 8388608 - 1) l))
    (odd_sign 24 false (8388608 + b % 8388608) (b / 8388608 - 1) 149)

-- a subnormal's, or zero's
pub bits_low : (b : ℕ) → b < 8388608 → HasValue (of_bits binary32 b) false b (2 ^ 149)
bits_low b h =
    let z : b / 8388608 ≡ 0 = omega arith in
    let s : b < 2147483648 = omega arith in
    subst (λ (x : Float). HasValue x false b (2 ^ 149))
    (sym (plain b s ∙ ap (λ (x : ℕ). of_fields binary32 false x (b % 8388608)) z ∙ ap (of_fields binary32 false 0) (mod-eq_of_lt h) ∙ at_zero b))
    (subst (λ (x : ℕ). HasValue (odd 24 false b 0 149) false x (2 ^ 149)) (mul-one b) (odd_sign 24 false b 0 149))

-- from the infinity's on, with the sign plus: the infinity or a NaN
pub bits_top : (b : ℕ) → 2139095040 ≤ b → b < 2147483648 → of_bits binary32 b ≡ cond (eqb (b % 8388608) 0) (inf false) nan
bits_top b h s =
    let e : b / 8388608 ≡ 255 = omega arith in
    plain b s ∙ ap (λ (x : ℕ). of_fields binary32 false x (b % 8388608)) e ∙ at_ones (b % 8388608)

-- a value's fraction, reduced
pub value_reduce : (x : Float) (s : Bool) (a c k : ℕ) → 0 < k → HasValue x s (a * k) (c * k) → HasValue x s a c
value_reduce nan s a c k K v = absurd v
value_reduce (inf t) s a c k K v = absurd v
value_reduce (fin t m e) s a c k K v = (v.0, eq_of_mul-eq-mul_right k K (m * up e * c) (a * down e) (mul_assoc (m * up e) c k ∙ v.1 ∙ mul_right_comm a k (down e)))

-- two fractions of one value
pub value_cross : (x : Float) (a c b d : ℕ) → HasValue x false a c → HasValue x false b d → a * d ≡ b * c
value_cross nan a c b d v w = absurd v
value_cross (inf s) a c b d v w = absurd v
value_cross (fin s m e) a c b d v w =
    eq_of_mul-eq-mul_right (down e) (down_pos e) (a * d) (b * c)
    (mul_right_comm a d (down e) ∙ ap (λ (x : ℕ). x * d) (sym v.1) ∙ mul_right_comm (m * up e) c d ∙ ap (λ (x : ℕ). x * c) w.1 ∙ mul_right_comm b (down e) c)
