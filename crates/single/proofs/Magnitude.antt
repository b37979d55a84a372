-- How large a float can be: magnitudes through `mul`, `add` and `sub` at binary32, and what they give a cast to an integer. Assumes nothing.
use mathlib.Core.Path.{◌≡◌, sym, ap, subst, ◌∙◌}
use mathlib.Core.Bool.{Bool, true, false, cond, not, ◌&&◌, ◌||◌, beq}
use Prim.Native.Nat.{ℕ, zero, suc, ◌+◌, ◌-◌, ◌*◌, ◌<◌, ◌≤◌, ◌^◌}
use native.Mathlib.Omega.{arith}
use native.Mathlib.Nat.{le_trans, le_of_eq, le_refl, mul-le-mul, mul_comm, mul_assoc, mul-pos, mul-one, add-mul, mul-mul-mul_comm}
use lib.Dec.{T, ltb, eqb, ltb→lt, eqb→eq, lit≤}
use lib.IntN.{ℤ, pos}
use lib.Ieee.{Float, nan, inf, fin, binary32, up, down, odd, units, round, unlike, neg, sum, add, sub, mul, lt, eq, le, is_nan}
use lib.Ieee.Fits.{down_pos, round_is}
use lib.Ieee.Order.{round_mono}

-- x is finite, and at most b in magnitude
abbrev pub Mag : ℕ → Float → Type 0
Mag b nan = ⊥
Mag b (inf s) = ⊥
Mag b (fin s m e) = m * up e ≤ b * down e

pub mag_no_nan : (b : ℕ) (x : Float) → Mag b x → T (not (is_nan x))
unfolding is_nan
mag_no_nan b nan m = absurd m
mag_no_nan b (inf s) m = absurd m
mag_no_nan b (fin s n e) m = tt

-- the powers of two that are f32s in the one way: at a numeral k this is refl, under `unfolding round`
abbrev pub Pow : ℕ → Type 0
Pow k = round binary32 false (2 ^ k) 1 ≡ fin false 1 (pos k)

pub or-le : (a b : ℕ) → T (ltb a b || (eqb a b && true)) → a ≤ b
or-le a b h = go (ltb a b) (eqb a b) (ltb→lt a b) (eqb→eq a b) h
  where
    go : (p q : Bool) → (T p → a < b) → (T q → a ≡ b) → T (p || (q && true)) → a ≤ b
    go true q f g t = let l : a < b = f tt in omega arith
    go false true f g t = le_of_eq (g tt)
    go false false f g t = absurd t

-- below 2 ^ k or level with it
le_mag : (m : ℕ) (e : ℤ) (k : ℕ) → T (le (fin false m e) (fin false 1 (pos k))) → m * up e ≤ 2 ^ k * down e
unfolding le lt eq
le_mag m e k h = let l : m * up e * 1 ≤ 1 * 2 ^ k * down e = or-le (m * up e * 1) (1 * 2 ^ k * down e) h in omega arith

odd_mag : (d : ℕ) (s : Bool) (q j l k : ℕ) → T (le (odd d false q j l) (fin false 1 (pos k))) → Mag (2 ^ k) (odd d s q j l)
unfolding odd
odd_mag d s zero j l k h = omega arith
odd_mag d s (suc q) j l k h = le_mag _ _ k h

units_mag : (s : Bool) (q j k : ℕ) → T (le (units binary32 false q j) (fin false 1 (pos k))) → Mag (2 ^ k) (units binary32 s q j)
unfolding units
units_mag s q j k h = go (ltb (q * 2 ^ j) (2 ^ (149 + 128))) h
  where
    go : (b : Bool) → T (le (cond b (odd 25 false q j 149) (inf false)) (fin false 1 (pos k))) → Mag (2 ^ k) (cond b (odd 25 s q j 149) (inf s))
    go true t = odd_mag 25 s q j 149 k t
    go false t = absurd (unfold le in unfold lt in unfold eq in t)

pub round_mag : (s : Bool) (a b k : ℕ) → Pow k → 0 < b → a ≤ 2 ^ k * b → Mag (2 ^ k) (round binary32 s a b)
round_mag s a b k p B h =
    let l : T (le (round binary32 false a b) (fin false 1 (pos k))) = subst (λ (y : Float). T (le (round binary32 false a b) y)) p (round_mono binary32 a b (2 ^ k) 1 B (lit≤ tt) (subst (λ (z : ℕ). z ≤ 2 ^ k * b) (sym (mul-one a)) h)) in
    subst (λ (y : Float). Mag (2 ^ k) y) (sym (round_is binary32 s a b)) (units_mag s _ _ k (subst (λ (y : Float). T (le y (fin false 1 (pos k)))) (round_is binary32 false a b) l))

pub mul_mag : (x y : Float) (a b k : ℕ) → Pow k → Mag a x → Mag b y → a * b ≤ 2 ^ k → Mag (2 ^ k) (mul binary32 x y)
unfolding mul
mul_mag nan y a b k p f g h = absurd f
mul_mag (inf s) y a b k p f g h = absurd f
mul_mag (fin s m e) nan a b k p f g h = absurd g
mul_mag (fin s m e) (inf t) a b k p f g h = absurd g
mul_mag (fin s m e) (fin t n d) a b k p f g h =
    round_mag (unlike s t) (m * up e * (n * up d)) (down e * down d) k p (mul-pos (down_pos e) (down_pos d))
    (le_trans (mul-le-mul f g) (le_trans (le_of_eq (mul-mul-mul_comm a (down e) b (down d))) (mul-le-mul h (le_refl (down e * down d)))))

both : (c a b p q r : ℕ) → p ≤ a * c → q ≤ b * c → a + b ≤ r → p + q ≤ r * c
both c a b p q r f g h = le_trans (let e : a * c + b * c ≡ (a + b) * c = sym (add-mul a b c) in omega (arith, e)) (mul-le-mul h (le_refl c))

pub add_mag : (x y : Float) (a b k : ℕ) → Pow k → Mag a x → Mag b y → a + b ≤ 2 ^ k → Mag (2 ^ k) (add binary32 x y)
unfolding add sum
add_mag nan y a b k p f g h = absurd f
add_mag (inf s) y a b k p f g h = absurd f
add_mag (fin s m e) nan a b k p f g h = absurd g
add_mag (fin s m e) (inf t) a b k p f g h = absurd g
add_mag (fin s m e) (fin t n d) a b k p f g h = go (beq s t) (ltb P Q)
  where
    P : ℕ
    P = m * up e * down d

    Q : ℕ
    Q = n * up d * down e

    C : ℕ
    C = down e * down d

    C⁺ : 0 < C
    C⁺ = mul-pos (down_pos e) (down_pos d)

    all : P + Q ≤ 2 ^ k * C
    all = both C a b P Q (2 ^ k) (le_trans (mul-le-mul f (le_refl (down d))) (le_of_eq (mul_assoc a (down e) (down d)))) (le_trans (mul-le-mul g (le_refl (down e))) (le_of_eq (mul_assoc b (down d) (down e) ∙ ap (λ (z : ℕ). b * z) (mul_comm (down d) (down e))))) h

    go : (u v : Bool) → Mag (2 ^ k) (cond u (round binary32 s (P + Q) C) (cond v (round binary32 t (Q - P) C) (round binary32 (s && ltb Q P) (P - Q) C)))
    go true v = round_mag s (P + Q) C k p C⁺ all
    go false true = round_mag t (Q - P) C k p C⁺ (le_trans (let i : Q - P ≤ P + Q = omega arith in i) all)
    go false false = round_mag (s && ltb Q P) (P - Q) C k p C⁺ (le_trans (let i : P - Q ≤ P + Q = omega arith in i) all)

pub neg_mag : (x : Float) (a : ℕ) → Mag a x → Mag a (neg x)
unfolding neg
neg_mag nan a f = absurd f
neg_mag (inf s) a f = absurd f
neg_mag (fin s m e) a f = f

pub sub_mag : (x y : Float) (a b k : ℕ) → Pow k → Mag a x → Mag b y → a + b ≤ 2 ^ k → Mag (2 ^ k) (sub binary32 x y)
unfolding sub
sub_mag x y a b k p f g h = add_mag x (neg y) a b k p f (neg_mag y b g) h

-- ---- from a test by comparisons, and to a cast

pub or_ge : (a b : ℕ) → T (ltb b a || (eqb a b && true)) → b ≤ a
or_ge a b h = go (ltb b a) (eqb a b) (ltb→lt b a) (eqb→eq a b) h
  where
    go : (p q : Bool) → (T p → b < a) → (T q → a ≡ b) → T (p || (q && true)) → b ≤ a
    go true q f g t = let l : b < a = f tt in omega arith
    go false true f g t = le_of_eq (sym (g tt))
    go false false f g t = absurd t

pub or_i : (p q : Bool) → T p → T (p || q)
or_i true q t = tt
or_i false q t = absurd t

-- within ±2 ^ k, as two comparisons say it
pub mag_of : (x : Float) (k : ℕ) → T (le (fin true 1 (pos k)) x) → T (le x (fin false 1 (pos k))) → Mag (2 ^ k) x
unfolding le lt eq
mag_of nan k h g = absurd h
mag_of (inf true) k h g = absurd h
mag_of (inf false) k h g = absurd g
mag_of (fin false m e) k h g = le_mag m e k g
mag_of (fin true m e) k h g = let l : m * up e * 1 ≤ 1 * 2 ^ k * down e = or_ge (1 * 2 ^ k * down e) (m * up e * 1) h in omega arith
