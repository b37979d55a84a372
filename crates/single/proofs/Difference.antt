-- The difference of two whole numbers that are f32s is exact. Assumes nothing.
use mathlib.Core.Path.{◌≡◌, sym, ap, subst, ◌∙◌}
use Prim.Native.Nat.{ℕ, suc, ◌-◌, ◌*◌, ◌^◌, ◌≤◌, ◌<◌}
use native.Mathlib.Omega.{arith}
use mathlib.Core.Bool.{true, false, cond, ◌&&◌}
use mathlib.Core.Logic.{inl, inr}
use native.Mathlib.Nat.{mul-one, mul_assoc, mul_comm, mul-pos, mul-le-mul, mul-lt-mul_of_pos_right, le_refl, mul-sub, zero-lt-suc}
use lib.Dec.{T, ltb}
use lib.IntN.{pos}
use lib.Ieee.{Float, nan, inf, fin, binary32, up, down, minus, round, of_int, neg, add, sub, sum}
use lib.Ieee.Back.{round_whole}
use lib.Ieee.Exact.{HasValue}
use lib.Ieee.Fits.{down_pos}
use lib.Ieee.Scale.{round_same}
use Rattle.single.proofs.Compare.{le-or-lt}
use borrow.Author.Tests.{le-leb, lt-leb, le-ltb, lt-ltb}

sub-mul : (a b c : ℕ) → (a - b) * c ≡ a * c - b * c
sub-mul a b c = mul_comm (a - b) c ∙ mul-sub c a b ∙ (λ i. mul_comm c a i - mul_comm c b i)

abbrev over : ℕ → ℕ → ℕ → Float
over a b c = cond (ltb a b) (round binary32 true (b - a) c) (round binary32 (false && ltb b a) (a - b) c)

-- a / 1 - b / 1, both over c
scaled_difference : (a b c : ℕ) → 0 < c → over (a * c) (b * c) c ≡ of_int binary32 (minus a b)
unfolding of_int
scaled_difference a b c C =
    elim (le-or-lt b a) [
      | inl h ↦
          let l : b * c ≤ a * c = mul-le-mul h (le_refl c) in
          simp (le-ltb (a * c) (b * c) l, le-leb b a h) (round_same binary32 false (a * c - b * c) c (a - b) 1 C (zero-lt-suc 0) (mul-one (a * c - b * c) ∙ sym (sub-mul a b c)))
      | inr h ↦
          let l : a * c < b * c = mul-lt-mul_of_pos_right h C in
          let e : b - a ≡ suc (b - suc a) = omega arith in
          simp (lt-ltb (a * c) (b * c) l, lt-leb b a h) (round_same binary32 true (b * c - a * c) c (suc (b - suc a)) 1 C (zero-lt-suc 0) (mul-one (b * c - a * c) ∙ sym (sub-mul b a c) ∙ ap (λ (x : ℕ). x * c) e))
    ]

pub whole_difference : (x y : Float) (a b : ℕ) → HasValue x false a 1 → HasValue y false b 1 → sub binary32 x y ≡ of_int binary32 (minus a b)
unfolding sub add sum neg
whole_difference nan y a b v w = absurd v
whole_difference (inf s) y a b v w = absurd v
whole_difference (fin true m e) y a b v w = absurd (subst T v.0 tt)
whole_difference (fin false m e) nan a b v w = absurd w
whole_difference (fin false m e) (inf s) a b v w = absurd w
whole_difference (fin false m e) (fin true n d) a b v w = absurd (subst T w.0 tt)
whole_difference (fin false m e) (fin false n d) a b v w =
    let c = down e * down d in
    let p : m * up e * down d ≡ a * c = ap (λ (x : ℕ). x * down d) (sym (mul-one (m * up e)) ∙ v.1) ∙ mul_assoc a (down e) (down d) in
    let q : n * up d * down e ≡ b * c = ap (λ (x : ℕ). x * down e) (sym (mul-one (n * up d)) ∙ w.1) ∙ mul_assoc b (down d) (down e) ∙ ap (λ (x : ℕ). b * x) (mul_comm (down d) (down e)) in
    (λ i. over (p i) (q i) c) ∙ scaled_difference a b c (mul-pos (down_pos e) (down_pos d))

pub int_difference : (a b : ℕ) → a ≤ 2 ^ 24 → b ≤ 2 ^ 24 → sub binary32 (of_int binary32 (pos a)) (of_int binary32 (pos b)) ≡ of_int binary32 (minus a b)
unfolding of_int
int_difference a b f g = whole_difference (round binary32 false a 1) (round binary32 false b 1) a b (round_whole binary32 false a f) (round_whole binary32 false b g)
