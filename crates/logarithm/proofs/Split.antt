-- ln's argument as m times 2 ^ e: every positive number has such an m and e, no other, and its logarithm is `ln_at` of them. Assumes nothing.
use mathlib.Core.Path.{◌≡◌, refl, sym, ap, subst, ◌∙◌}
use mathlib.Core.Bool.{Bool, true, false, true≢false}
use mathlib.Core.Logic.{◌⊎◌, inl, inr}
use Prim.Native.Nat.{ℕ, suc, ◌+◌, ◌-◌, ◌*◌, ◌^◌, ◌≤◌, ◌<◌}
use native.Mathlib.Omega.{arith}
use native.Mathlib.Nat.{mul-one, one-mul, mul_assoc, mul_right_comm, mul-pos, mul-le-mul, le_refl, eq_of_mul-eq-mul_right, lt_of_not-le, lt_of_lt_of_le, zero-lt-suc, le_of_suc-le-suc, le_of_mul-le-mul_right, pow-succ'}
use lib.Dec.{T}
use lib.IntN.{ℤ, pos, negsuc}
use lib.Pow.{pow_pos, pow-add, pow_mono, shl_lt}
use lib.Ieee.{Float, nan, inf, fin, binary32, round, of_int, size, fits, up, down, minus, lt, le}
use lib.Ieee.Digits.{size-lt, size-le, minus_val}
use lib.Ieee.Fits.{round-fits}
use lib.Ieee.Exact.{HasValue, round_exact}
use lib.Ieee.Order.{le_of_values}
use lib.Ieee.Positive.{num, den, den_pos, positive, between, own_value, values_of_le, value→cross}
use Rattle.single.proofs.Booleans.{holds}
use Rattle.single.specs.Single.{units_of}
use Rattle.single.proofs.Compare.{le-or-lt}
use Rattle.single.proofs.Digits.{span, size_shift, minus_shift}
use Rattle.single.proofs.Exact.{whole, own_units, digits_small, round_value}
use Rattle.single.proofs.Order.{lt_values, ge_values, not_lt_values}
use Rattle.single.proofs.Positive.{on_value}
use Rattle.single.proofs.Magnitude.{or_i}
use Rattle.single.proofs.Value.{value_cross}
use borrow.Author.Tests.{le-leb, lt-leb}
use Rattle.logarithm.specs.Logarithm.{Split, ln_at, ln_from, logarithm, least_digits, digits_end}
use Rattle.logarithm.proofs.Digits.{end_value, from_digits, pick}

least_value : HasValue least_digits false 11863283 (2 ^ 24)
unfolding round
least_value = (refl, refl)

least_positive : T (positive least_digits)
unfolding round
least_positive = tt

-- q * 2 ^ i over 2 ^ c loses no digit, for every c from one less than the number's digits up
over : (q i c : ℕ) → q < 2 ^ 24 → size q + i ≤ suc c → c ≤ i + 149 → HasValue (round binary32 false (q * 2 ^ i) (2 ^ c)) false (q * 2 ^ i) (2 ^ c)
over q i c Q l h =
    let j = i + 149 - c in
    let s : size q + j ≤ 150 = omega arith in
    round_exact binary32 false (q * 2 ^ i) (2 ^ c) q j (pow_pos c) Q (lt_of_lt_of_le (shl_lt (size q) j (size-lt q)) (pow_mono (let z : size q + j ≤ 277 = omega arith in z)))
    (mul_assoc q (2 ^ i) (2 ^ 149) ∙ ap (λ (x : ℕ). q * x) (sym (pow-add 2 i 149) ∙ ap (λ (x : ℕ). 2 ^ x) (let z : i + 149 ≡ j + c = omega arith in z) ∙ pow-add 2 j c) ∙ sym (mul_assoc q (2 ^ j) (2 ^ c)))

value_by : (m : Float) (n k : ℕ) → T (positive m) → num m * k ≡ n * den m → HasValue m false n k
value_by nan n k p e = absurd p
value_by (inf s) n k p e = absurd p
value_by (fin true m g) n k p e = absurd p
value_by (fin false m g) n k p e = (refl, e)

minus_up : (j : ℕ) → pos j ≡ minus (j + 149) 149
minus_up j = let e : j + 149 - 149 ≡ j = omega arith in simp (le-leb 149 (j + 149) (let z : 149 ≤ j + 149 = omega arith in z)) (ap pos (sym e))

minus_down : (j : ℕ) → suc j ≤ 149 → negsuc j ≡ minus (149 - suc j) 149
minus_down j h =
    let e : 149 - suc (149 - suc j) ≡ j = omega arith in
    simp (lt-leb 149 (149 - suc j) (let z : 149 - suc j < 149 = omega arith in z)) (ap negsuc (sym e))

-- y = m times 2 ^ e is n units of 2 ^ -149, so m is n over a power of two
module _ (y m : Float) (e : ℤ) (n : ℕ) (P : 0 < n) (v : HasValue y false n (2 ^ 149)) (s : Split y m e) where
  m_positive : T (positive m)
  unfolding round
  m_positive = between least_digits m digits_end tt tt s.least (unfold le in or_i (lt m digits_end) _ (holds s.below))

  key : num m * up e * 2 ^ 149 ≡ n * (den m * down e)
  key = value_cross y (num m * up e) (den m * down e) n (2 ^ 149) s.exact v

  -- m is below 1.4142135, in whole numbers
  below_end_of : (a c : ℕ) → 0 < c → HasValue m false a c → a * 2 ^ 23 < 11863283 * c
  below_end_of a c C w = lt_of_not-le (λ (g : 11863283 * c ≤ a * 2 ^ 23). true≢false (sym s.below ∙ not_lt_values m digits_end a c 11863283 (2 ^ 23) C (pow_pos 23) w end_value g))

  too_small : (j : ℕ) → 150 ≤ suc j → num m * 1 * 2 ^ 149 ≡ n * (den m * 2 ^ suc j) → ⊥
  too_small j h q =
      let p : 2 ^ 150 ≤ 2 ^ suc j = pow_mono h in
      let g : 1 * (den m * 2 ^ 150) ≤ n * (den m * 2 ^ suc j) = mul-le-mul P (mul-le-mul (le_refl (den m)) p) in
      let r : den m * 2 * 2 ^ 149 ≤ num m * 2 ^ 149 = subst (λ (x : ℕ). den m * 2 * 2 ^ 149 ≤ x * 2 ^ 149) (mul-one (num m)) (subst (λ (x : ℕ). den m * 2 * 2 ^ 149 ≤ x) (sym q) (subst (λ (x : ℕ). x ≤ n * (den m * 2 ^ suc j)) (one-mul (den m * 2 ^ 150) ∙ sym (mul_assoc (den m) 2 (2 ^ 149))) g)) in
      let t : den m * 2 ≤ num m = le_of_mul-le-mul_right r (pow_pos 149) in
      let u : num m * 8388608 < 11863283 * den m = below_end_of (num m) (den m) (den_pos m) (own_value m m_positive) in
      omega arith

  at_scale : (c : ℕ) × HasValue m false n (2 ^ c) × (e ≡ minus c 149)
  at_scale = go e refl
    where
      go : (z : ℤ) → e ≡ z → (c : ℕ) × HasValue m false n (2 ^ c) × (e ≡ minus c 149)
      go (pos j) q =
          let k : num m * 2 ^ j * 2 ^ 149 ≡ n * (den m * 1) = subst (λ (z : ℤ). num m * up z * 2 ^ 149 ≡ n * (den m * down z)) q key in
          (j + 149, value_by m n (2 ^ (j + 149)) m_positive (ap (λ (x : ℕ). num m * x) (pow-add 2 j 149) ∙ sym (mul_assoc (num m) (2 ^ j) (2 ^ 149)) ∙ k ∙ ap (λ (x : ℕ). n * x) (mul-one (den m))), q ∙ minus_up j)
      go (negsuc j) q =
          let k : num m * 1 * 2 ^ 149 ≡ n * (den m * 2 ^ suc j) = subst (λ (z : ℤ). num m * up z * 2 ^ 149 ≡ n * (den m * down z)) q key in
          elim (le-or-lt (suc j) 149) [
            | inr g ↦ absurd (too_small j g k)
            | inl h ↦
                let c = 149 - suc j in
                let two : 2 ^ 149 ≡ 2 ^ c * 2 ^ suc j = ap (λ (x : ℕ). 2 ^ x) (let z : 149 ≡ c + suc j = omega arith in z) ∙ pow-add 2 c (suc j) in (
                  c,
                  value_by m n (2 ^ c) m_positive (eq_of_mul-eq-mul_right (2 ^ suc j) (pow_pos (suc j)) (num m * 2 ^ c) (n * den m)
                      (mul_assoc (num m) (2 ^ c) (2 ^ suc j) ∙ ap (λ (x : ℕ). num m * x) (sym two) ∙ ap (λ (x : ℕ). x * 2 ^ 149) (sym (mul-one (num m))) ∙ k ∙ sym (mul_assoc n (den m) (2 ^ suc j)))),
                  q ∙ minus_down j h,
                )
          ]

  -- that power is one of two, by n's digits
  module _ (k : ℕ) (l : 2 ^ k ≤ n) (h : n < 2 ^ suc k) where
    near : (c : ℕ) → HasValue m false n (2 ^ c) → (k ≤ c) × (c ≤ suc k)
    near c w =
        let u : n * 8388608 < 11863283 * 2 ^ c = below_end_of n (2 ^ c) (pow_pos c) w in
        let t : 11863283 * 2 ^ c ≤ n * 16777216 = values_of_le least_digits m 11863283 (2 ^ 24) n (2 ^ c) least_positive m_positive least_value w s.least in (
          le_of_suc-le-suc (lt_of_not-le (λ (g : suc c ≤ k). let p : 2 ^ suc c ≤ 2 ^ k = pow_mono g in let d : 2 ^ suc c ≡ 2 * 2 ^ c = pow-succ' 2 c in omega arith)),
          le_of_suc-le-suc (lt_of_not-le (λ (g : suc (suc k) ≤ c). let p : 2 ^ suc (suc k) ≤ 2 ^ c = pow_mono g in let d : 2 ^ suc (suc k) ≡ 2 * 2 ^ suc k = pow-succ' 2 (suc k) in omega arith)),
        )

-- ---- the two m that `ln_from` picks from
abbrev first : ℕ → ℕ → Float
first n k = round binary32 false n (2 ^ k)

-- which of the two a split is
abbrev Picks : Float → ℤ → ℕ → ℕ → Type 0
Picks m e n k = ((lt (first n k) digits_end ≡ true) × (m ≡ first n k) × (e ≡ minus k 149)) ⊎ ((lt (first n k) digits_end ≡ false) × (m ≡ first n (suc k)) × (e ≡ minus (suc k) 149))

module _ (n : ℕ) (d : ℤ) (t : T (fits binary32 (fin false (suc n) d))) where
  abbrev N : ℕ
  N = units_of (suc n) d

  N-pos : 0 < N
  N-pos = let w = whole false n d t in subst (λ (x : ℕ). 0 < x) (sym w.1) (mul-pos (zero-lt-suc n) (pow_pos w.0))

  -- N over 2 ^ c loses no digit, at the two c that `ln_from` has
  exact_at : (c : ℕ) → size N ≤ suc c → c ≤ size N → HasValue (first N c) false N (2 ^ c)
  exact_at c l h =
      let w = whole false n d t in
      let e : size N ≡ size (suc n) + w.0 = ap size w.1 ∙ size_shift (suc n) w.0 (zero-lt-suc n) in
      let b : size (suc n) ≤ 24 = size-le (suc n) 24 (digits_small false n d t) in
      subst (λ (x : ℕ). HasValue (round binary32 false x (2 ^ c)) false x (2 ^ c)) (sym w.1) (over (suc n) w.0 c (digits_small false n d t) (omega arith) (omega arith))

  module _ (m : Float) (e : ℤ) (f : T (fits binary32 m)) (s : Split (fin false (suc n) d) m e) (k : ℕ) (z : size N ≡ suc k) where
    picked : (c : ℕ) → HasValue m false N (2 ^ c) → e ≡ minus c 149 → k ≤ c → c ≤ suc k → Picks m e N k
    picked c w q l h =
        elim (le-or-lt c k) [
          | inl g ↦
              let j : c ≡ k = omega arith in
              let r : first N k ≡ m = round_value m N (2 ^ k) f N-pos (pow_pos k) (subst (λ (x : ℕ). HasValue m false N (2 ^ x)) j w) in
              inl (ap (λ (x : Float). lt x digits_end) r ∙ s.below, sym r, q ∙ ap (λ (x : ℕ). minus x 149) j)
          | inr g ↦
              let j : c ≡ suc k = omega arith in
              let w' : HasValue m false N (2 ^ suc k) = subst (λ (x : ℕ). HasValue m false N (2 ^ x)) j w in
              let t' : 11863283 * 2 ^ suc k ≤ N * 16777216 = values_of_le least_digits m 11863283 (2 ^ 24) N (2 ^ suc k) least_positive (m_positive (fin false (suc n) d) m e N N-pos (own_units false n d t) s) least_value w' s.least in
              let two : 2 ^ suc k ≡ 2 * 2 ^ k = pow-succ' 2 k in
              inr (not_lt_values (first N k) digits_end N (2 ^ k) 11863283 (2 ^ 23) (pow_pos k) (pow_pos 23) (exact_at k (omega arith) (omega arith)) end_value (omega arith), sym (round_value m N (2 ^ suc k) f N-pos (pow_pos (suc k)) w'), q ∙ ap (λ (x : ℕ). minus x 149) j)
        ]

    picks : 2 ^ k ≤ N → N < 2 ^ suc k → Picks m e N k
    picks l h =
        let y = fin false (suc n) d in
        let a = at_scale y m e N N-pos (own_units false n d t) s in
        let c = near y m e N N-pos (own_units false n d t) s k l h a.0 a.1 in
        picked a.0 a.1 a.2 c.0 c.1

  -- one split, and no other
  pub split_unique : (m m' : Float) (e e' : ℤ) → T (fits binary32 m) → T (fits binary32 m') → Split (fin false (suc n) d) m e → Split (fin false (suc n) d) m' e' → (m ≡ m') × (e ≡ e')
  split_unique m m' e e' f f' s s' =
      let k = span N N-pos in
      go k.0 (picks m e f s k.0 k.1 k.2 k.3) (picks m' e' f' s' k.0 k.1 k.2 k.3)
    where
      go : (k : ℕ) → Picks m e N k → Picks m' e' N k → (m ≡ m') × (e ≡ e')
      go k (inl a) (inl b) = (a.1 ∙ sym b.1, a.2 ∙ sym b.2)
      go k (inl a) (inr b) = absurd (true≢false (sym a.0 ∙ b.0))
      go k (inr a) (inl b) = absurd (true≢false (sym b.0 ∙ a.0))
      go k (inr a) (inr b) = (a.1 ∙ sym b.1, a.2 ∙ sym b.2)

  -- and the logarithm is that of its parts
  pub logarithm_split : (m : Float) (e : ℤ) → T (fits binary32 m) → Split (fin false (suc n) d) m e → logarithm (fin false (suc n) d) ≡ ln_at m (of_int binary32 e)
  unfolding logarithm
  logarithm_split m e f s =
      let k = span N N-pos in
      on_value (inf true) (λ (x : ℕ). ln_from x 150) (fin false (suc n) d) N N-pos (own_units false n d t) ∙ from_digits N (suc k.0) 150 k.1 ∙ go k.0 (picks m e f s k.0 k.1 k.2 k.3)
    where
      shift : (k : ℕ) → minus (suc k) 150 ≡ minus k 149
      shift k = ap (λ (x : ℕ). minus x 150) (let z : suc k ≡ k + 1 = omega arith in z) ∙ minus_shift k 149 1

      go : (k : ℕ) → Picks m e N k → pick (round binary32 false N (2 ^ (suc k - 1))) (round binary32 false N (2 ^ suc k)) (minus (suc k) 150) (minus (suc (suc k)) 150) ≡ ln_at m (of_int binary32 e)
      go k a = ap (λ (x : ℕ). pick (round binary32 false N (2 ^ x)) (first N (suc k)) (minus (suc k) 150) (minus (suc (suc k)) 150)) (let z : suc k - 1 ≡ k = omega arith in z) ∙ by k a
        where
          by : (k : ℕ) → Picks m e N k → pick (first N k) (first N (suc k)) (minus (suc k) 150) (minus (suc (suc k)) 150) ≡ ln_at m (of_int binary32 e)
          by k (inl a) = rw a.0 (λ i. ln_at (sym a.1 i) (of_int binary32 ((shift k ∙ sym a.2) i)))
          by k (inr a) = rw a.0 (λ i. ln_at (sym a.1 i) (of_int binary32 ((shift (suc k) ∙ sym a.2) i)))

  exact_split : (m : Float) (c : ℕ) → HasValue m false N (2 ^ c) → HasValue (fin false (suc n) d) false (num m * up (minus c 149)) (den m * down (minus c 149))
  exact_split m c w = (refl, eq_of_mul-eq-mul_right (2 ^ 149) (pow_pos 149) (suc n * up d * (den m * down (minus c 149))) (num m * up (minus c 149) * down d) (left ∙ sym right))
    where
      left : suc n * up d * (den m * down (minus c 149)) * 2 ^ 149 ≡ N * den m * down (minus c 149) * down d
      left = mul_right_comm (suc n * up d) (den m * down (minus c 149)) (2 ^ 149) ∙ ap (λ (x : ℕ). x * (den m * down (minus c 149))) (whole false n d t).2 ∙ mul_right_comm N (down d) (den m * down (minus c 149)) ∙ ap (λ (x : ℕ). x * down d) (sym (mul_assoc N (den m) (down (minus c 149))))

      right : num m * up (minus c 149) * down d * 2 ^ 149 ≡ N * den m * down (minus c 149) * down d
      right = mul_right_comm (num m * up (minus c 149)) (down d) (2 ^ 149) ∙ ap (λ (x : ℕ). x * down d) (minus_val (num m) c 149 ∙ ap (λ (x : ℕ). x * down (minus c 149)) (value→cross m N (2 ^ c) w))

  -- there is one
  pub split_exists : (m : Float) × (e : ℤ) × T (fits binary32 m) × Split (fin false (suc n) d) m e
  split_exists = let k = span N N-pos in go k.0 k.1 k.2 k.3 (lt (first N k.0) digits_end) refl
    where
      go : (k : ℕ) → size N ≡ suc k → 2 ^ k ≤ N → N < 2 ^ suc k → (b : Bool) → lt (first N k) digits_end ≡ b → (m : Float) × (e : ℤ) × T (fits binary32 m) × Split (fin false (suc n) d) m e
      go k z l h true q =
          let w = exact_at k (omega arith) (omega arith) in (
            first N k,
            minus k 149,
            round-fits binary32 false N (2 ^ k),
            record {
              exact = exact_split (first N k) k w;
              least = le_of_values least_digits (first N k) 11863283 (2 ^ 24) N (2 ^ k) (pow_pos 24) (pow_pos k) least_value w (let g : 11863283 * 2 ^ k ≤ N * 16777216 = omega arith in g);
              below = q;
            },
          )
      go k z l h false q =
          let w = exact_at (suc k) (omega arith) (omega arith) in
          let two : 2 ^ suc k ≡ 2 * 2 ^ k = pow-succ' 2 k in
          let g : 11863283 * 2 ^ k ≤ N * 8388608 = ge_values (first N k) digits_end N (2 ^ k) 11863283 (2 ^ 23) (pow_pos k) (pow_pos 23) (exact_at k (omega arith) (omega arith)) end_value q in (
            first N (suc k),
            minus (suc k) 149,
            round-fits binary32 false N (2 ^ suc k),
            record {
              exact = exact_split (first N (suc k)) (suc k) w;
              least = le_of_values least_digits (first N (suc k)) 11863283 (2 ^ 24) N (2 ^ suc k) (pow_pos 24) (pow_pos (suc k)) least_value w (let r : 11863283 * 2 ^ suc k ≤ N * 16777216 = omega arith in r);
              below = lt_values (first N (suc k)) digits_end N (2 ^ suc k) 11863283 (2 ^ 23) (pow_pos (suc k)) (pow_pos 23) w end_value (let r : N * 8388608 < 11863283 * 2 ^ suc k = omega arith in r);
            },
          )
