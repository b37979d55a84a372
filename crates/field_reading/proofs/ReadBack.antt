-- What `i` writes without stars, `read_integer` reads back. Assumes nothing.
use mathlib.Core.Path.{◌≡◌, refl, sym, ap, subst, ◌∙◌}
use mathlib.Core.Bool.{Bool, true, false}
use mathlib.Core.List.{List, [], ◌∷◌, ◌++◌}
use Prim.Native.Nat.{ℕ, zero, suc, ◌+◌, ◌-◌, ◌*◌, ◌/◌, ◌%◌, ◌^◌, ◌≤◌, ◌<◌}
use native.Mathlib.Omega.{arith}
use native.Mathlib.Nat.{pow-succ', div-lt_iff_lt-mul, zero-lt-suc}
use borrow.Author.Tests.{ltb-true, ltb-false, le-leb, ne_eqb}
use lib.Dec.{ltb}
use lib.IntN.{ℤ, pos, negsuc, nat_abs}
use lib.ListN.{length, drop, get_or, replicate}
use Rattle.std.proofs.Common.{Some, one-add}
use Rattle.output.specs.Field.{spelled, decimal, text, justified, integer_field}
use Rattle.field_reading.specs.Digits.{spaces_of, read_on, digits_of, unspaced, signed_of}
use Rattle.field_reading.specs.Integer.{integer, integer_of}
use Rattle.output.proofs.Field.{turn, last, longer}

-- induction on the digits: a number below 10, or one whose tenth has the property
by_tens : (P : ℕ → ℕ → Type 0) → ((k n : ℕ) → n < 10 → P k n)
    → ((k n : ℕ) → 10 ≤ n → n ≤ suc k → P k (n / 10) → P (suc k) n) → (k n : ℕ) → n ≤ k → P k n
by_tens P small large zero n h = small zero n (omega arith)
by_tens P small large (suc k) n h = go (ltb n 10) refl (λ (l : 10 ≤ n). by_tens P small large k (n / 10) (omega arith))
  where
    go : (b : Bool) → ltb n 10 ≡ b → (10 ≤ n → P k (n / 10)) → P (suc k) n
    go true e rec = small (suc k) n (ltb-true n 10 e)
    go false e rec = let l : 10 ≤ n = ltb-false n 10 e in large k n l h (rec l)

next : (k n : ℕ) (t : List ℕ) → 10 ≤ n → n ≤ suc k → spelled (suc k) (ltb n 10) n t ≡ spelled k (ltb (n / 10) 10) (n / 10) ((48 + n % 10) ∷ t)
next k n t h l = turn (suc k) n t h l ∙ ap (λ (x : ℕ). spelled x (ltb (n / 10) 10) (n / 10) ((48 + n % 10) ∷ t)) (let z : suc k - 1 ≡ k = omega arith in z)

-- ---- the digits spell their number
digit : (a d : ℕ) (t : List ℕ) → d < 10 → read_on a ((48 + d) ∷ t) ≡ read_on (a * 10 + d) t
unfolding read_on
digit a d t h =
    let lo : 48 ≤ 48 + d = omega arith in
    let hi : 48 + d ≤ 57 = omega arith in
    let e : 48 + d - 48 ≡ d = omega arith in
    rw (le-leb 48 (48 + d) lo, le-leb (48 + d) 57 hi, e) refl

spells : (k n : ℕ) → n ≤ k → (t : List ℕ) → read_on 0 (spelled k (ltb n 10) n t) ≡ read_on n t
spells = by_tens (λ (k n : ℕ). (t : List ℕ) → read_on 0 (spelled k (ltb n 10) n t) ≡ read_on n t) small large
  where
    small : (k n : ℕ) → n < 10 → (t : List ℕ) → read_on 0 (spelled k (ltb n 10) n t) ≡ read_on n t
    small k n h t = ap (read_on 0) (last k n t h) ∙ digit 0 n t h ∙ ap (λ (x : ℕ). read_on x t) (let z : 0 * 10 + n ≡ n = omega arith in z)

    large : (k n : ℕ) → 10 ≤ n → n ≤ suc k → ((t : List ℕ) → read_on 0 (spelled k (ltb (n / 10) 10) (n / 10) t) ≡ read_on (n / 10) t)
        → (t : List ℕ) → read_on 0 (spelled (suc k) (ltb n 10) n t) ≡ read_on n t
    large k n h l rec t =
        ap (read_on 0) (next k n t h l)
        ∙ rec ((48 + n % 10) ∷ t)
        ∙ digit (n / 10) (n % 10) t (omega arith)
        ∙ ap (λ (x : ℕ). read_on x t) (let z : n / 10 * 10 + n % 10 ≡ n = omega arith in z)

-- ---- a number below 10 ^ j has at most j digits
few : (k n : ℕ) → n ≤ k → (j : ℕ) (t : List ℕ) → n < 10 ^ suc j → length (spelled k (ltb n 10) n t) ≤ suc j + length t
few = by_tens (λ (k n : ℕ). (j : ℕ) (t : List ℕ) → n < 10 ^ suc j → length (spelled k (ltb n 10) n t) ≤ suc j + length t) small large
  where
    small : (k n : ℕ) → n < 10 → (j : ℕ) (t : List ℕ) → n < 10 ^ suc j → length (spelled k (ltb n 10) n t) ≤ suc j + length t
    small k n h j t b = omega (arith, ap length (last k n t h))

    large : (k n : ℕ) → 10 ≤ n → n ≤ suc k → ((j : ℕ) (t : List ℕ) → n / 10 < 10 ^ suc j → length (spelled k (ltb (n / 10) 10) (n / 10) t) ≤ suc j + length t)
        → (j : ℕ) (t : List ℕ) → n < 10 ^ suc j → length (spelled (suc k) (ltb n 10) n t) ≤ suc j + length t
    large k n h l rec zero t b = absurd (let z : n < 10 = b in let w : ◌≡◌ {A = ℕ} 0 1 = omega arith in omega arith)
    large k n h l rec (suc j) t b =
        let p : 10 ^ suc (suc j) ≡ 10 * 10 ^ suc j = pow-succ' 10 (suc j) in
        let r = rec j ((48 + n % 10) ∷ t) ((div-lt_iff_lt-mul (zero-lt-suc 9)).1 (omega arith)) in
        omega (arith, ap length (next k n t h l))

-- ---- the first byte is a digit, so neither a space nor a minus
abbrev Begins : List ℕ → Type 0
Begins l = (48 ≤ get_or l 0 0) × (get_or l 0 0 ≤ 57)

begins : (k n : ℕ) → n ≤ k → (t : List ℕ) → Begins (spelled k (ltb n 10) n t)
begins = by_tens (λ (k n : ℕ). (t : List ℕ) → Begins (spelled k (ltb n 10) n t)) small large
  where
    small : (k n : ℕ) → n < 10 → (t : List ℕ) → Begins (spelled k (ltb n 10) n t)
    small k n h t = subst (λ (l : List ℕ). Begins l) (sym (last k n t h)) (omega arith, omega arith)

    large : (k n : ℕ) → 10 ≤ n → n ≤ suc k → ((t : List ℕ) → Begins (spelled k (ltb (n / 10) 10) (n / 10) t))
        → (t : List ℕ) → Begins (spelled (suc k) (ltb n 10) n t)
    large k n h l rec t = subst (λ (l : List ℕ). Begins l) (sym (next k n t h l)) (rec ((48 + n % 10) ∷ t))

-- ---- the spaces
none : (l : List ℕ) → (get_or l 0 0 ≡ 32 → ⊥) → spaces_of l ≡ 0
none [] h = refl
none (b ∷ l) h = rw (ne_eqb b 32 h) refl

after_spaces : (k : ℕ) (l : List ℕ) → spaces_of l ≡ 0 → drop (spaces_of (replicate k 32 ++ l)) (replicate k 32 ++ l) ≡ l
after_spaces zero l e = rw e refl
after_spaces (suc k) l e = rw (one-add (spaces_of (replicate k 32 ++ l))) (after_spaces k l e)

-- ---- the whole
digits_of_lem : (n : ℕ) → n < 10 ^ 18 → digits_of 18 (decimal n) ≡ Some n
unfolding digits_of decimal read_on
digits_of_lem n h =
    let l : 1 ≤ length (spelled n (ltb n 10) n []) = (let z = longer n (ltb n 10) n [] in omega arith) in
    let u : length (spelled n (ltb n 10) n []) ≤ 18 = (let z = few n n (omega arith) 17 [] h in omega arith) in
    rw (le-leb 1 (length (spelled n (ltb n 10) n [])) l, le-leb (length (spelled n (ltb n 10) n [])) 18 u) (spells n n (omega arith) [])

first : (n : ℕ) → Begins (decimal n)
unfolding decimal
first n = begins n n (omega arith) []

unspaced_of : (v : ℤ) → nat_abs v < 10 ^ 18 → integer (unspaced 18 (text v)) ≡ Some v
unfolding unspaced text integer
unspaced_of (pos n) h =
    let b = first n in
    rw (ne_eqb (get_or (decimal n) 0 0) 45 (λ (e : get_or (decimal n) 0 0 ≡ 45). omega (arith, b.0, e)), digits_of_lem n h) refl
unspaced_of (negsuc n) h = rw (digits_of_lem (suc n) h) refl

no_space : (v : ℤ) → spaces_of (text v) ≡ 0
unfolding text
no_space (pos n) = let b = first n in none (decimal n) (λ (e : get_or (decimal n) 0 0 ≡ 32). omega (arith, b.0, e))
no_space (negsuc n) = none (45 ∷ decimal (suc n)) (λ (e : ◌≡◌ {A = ℕ} 45 32). omega (arith, e))

pub reads_back : (v : ℤ) (w : ℕ) → length (text v) ≤ w → nat_abs v < 10 ^ 18 → integer_of (integer_field v w) ≡ Some v
unfolding integer_of integer_field justified signed_of
reads_back v w h b = rw (le-leb (length (text v)) w h, after_spaces (w - length (text v)) (text v) (no_space v)) (unspaced_of v b)
