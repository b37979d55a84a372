-- Laws of the integer field: its loops' invariants, its length, when it is stars. Assumes nothing.
use Rattle.std.proofs.Common.{◌≡◌, ℕ, zero, suc, ◌+◌, ◌-◌, ◌*◌, ◌/◌, ◌%◌, ◌^◌, ◌<◌, ◌≤◌, Bool, true, false, cond, ltb, leb}
use Rattle.std.proofs.Common.{List, [], ◌∷◌, ◌++◌, length, take, drop, set, replicate, ℤ, pos, negsuc, nat_abs, Option, Some}
use Rattle.std.proofs.Common.{None, sym, refl, ap, ◌∙◌, subst, zero-lt-suc, le-div_iff_mul-le, sub-one, arith, length-append}
use Rattle.std.proofs.Common.{length-drop, length-set, length-take-le, le-ltb, lt-ltb, le-leb, leb-true}
use native.Mathlib.Nat.{one-le-pow, pow-succ'}
use borrow.Author.Tests.{lt-leb}
use lib.Seq.{drop-length}
use lib.ListN.{length-replicate}
use Rattle.std.proofs.lemmas.List.{drop-set}
use Rattle.output.specs.Placed.{Stands, Longer, Placed}
use Rattle.output.specs.Field.{spelled, decimal, text, justified, integer_field}

-- ---- the digits
pub turn : (k n : ℕ) (t : List ℕ) → 10 ≤ n → n ≤ k → spelled k (ltb n 10) n t ≡ spelled (k - 1) (ltb (n / 10) 10) (n / 10) ((48 + n % 10) ∷ t)
unfolding spelled
turn zero n t h l = absurd (let z : 10 ≤ 0 = omega arith in let w : ◌≡◌ {A = ℕ} 0 1 = omega arith in omega arith)
turn (suc k) n t h l = rw (le-ltb n 10 h, sub-one (suc k))

pub last : (k n : ℕ) (t : List ℕ) → n < 10 → spelled k (ltb n 10) n t ≡ (48 + n) ∷ t
unfolding spelled
last zero n t h = refl
last (suc k) n t h = rw (lt-ltb n 10 h)

pub longer : (k : ℕ) (b : Bool) (n : ℕ) (t : List ℕ) → length t < length (spelled k b n t)
unfolding spelled
longer zero b n t = omega arith
longer (suc k) true n t = omega arith
longer (suc k) false n t = let h = longer k (ltb (n / 10) 10) (n / 10) ((48 + n % 10) ∷ t) in omega arith

-- ---- the loop: rest's digits are still to be written before what stands from i on
pub record Spelling (n : ℕ) (d out : List ℕ) (rest i : ℕ) : Type 0 where
  pub long : length out ≡ length d
  pub low : i ≤ length d
  pub left : rest ≤ n - (length d - i)
  pub end : spelled (n - (length d - i)) (ltb rest 10) rest (drop i out) ≡ decimal n

pub starts : (n : ℕ) (d : List ℕ) → Spelling n d d n (length d)
unfolding decimal
starts n d =
    let e : n - (length d - length d) ≡ n = omega arith in
    record { long = refl; low = omega arith; left = omega arith; end = rw (e, drop-length d) }

stored : (t : List ℕ) (i b : ℕ) → 0 < i → i ≤ length t → drop (i - 1) (set t (i - 1) b) ≡ b ∷ drop i t
stored t i b p h = let e : i - 1 + 1 ≡ i = omega arith in drop-set t (i - 1) b (omega arith) ∙ ap (λ (k : ℕ). b ∷ drop k t) e

pub more : (n : ℕ) (d out : List ℕ) (rest i : ℕ) → Spelling n d out rest i → 10 ≤ rest → 0 < i
    → Spelling n d (set out (i - 1) (48 + rest % 10)) (rest / 10) (i - 1)
more n d out rest i s h p =
    let a : length out ≡ length d = s.long in
    let l : i ≤ length d = s.low in
    let r : rest ≤ n - (length d - i) = s.left in
    let e : n - (length d - (i - 1)) ≡ n - (length d - i) - 1 = omega arith in
    record {
      long = length-set out (i - 1) (48 + rest % 10) ∙ a;
      low = omega arith;
      left = omega arith;
      end = rw (e, stored out i (48 + rest % 10) p (omega arith)) (sym (turn (n - (length d - i)) rest (drop i out) h r) ∙ s.end);
    }

pub ends : (n : ℕ) (d out : List ℕ) (rest i : ℕ) → Spelling n d out rest i → rest < 10 → 0 < i → Stands n d (set out (i - 1) (48 + rest)) (i - 1)
ends n d out rest i s h p =
    let a : length out ≡ length d = s.long in
    let l : i ≤ length d = s.low in
    record {
      long = length-set out (i - 1) (48 + rest) ∙ a;
      low = omega arith;
      end = stored out i (48 + rest) p (omega arith) ∙ sym (last (n - (length d - i)) rest (drop i out) h) ∙ s.end;
    }

pub full : (n : ℕ) (d out : List ℕ) (rest i : ℕ) → Spelling n d out rest i → i ≡ 0 → Longer n d out
full n d out rest i s z =
    let a : length out ≡ length d = s.long in
    let e : spelled (n - (length d - i)) (ltb rest 10) rest (drop i out) ≡ decimal n = s.end in
    let g = longer (n - (length d - i)) (ltb rest 10) rest (drop i out) in
    let f : length (drop i out) ≡ length out = rw z refl in
    record { long = a; over = omega (arith, ap length e) }

-- ---- the whole field
pub at : (n : ℕ) (d out : List ℕ) (r : Option ℕ) (i : ℕ) → Placed n d out r → r ≡ Some i → Stands n d out i
at n d out r i p e = subst (λ (x : Option ℕ). Placed n d out x) e p

pub too_long : (n : ℕ) (d out : List ℕ) (r : Option ℕ) → Placed n d out r → r ≡ None → Longer n d out
too_long n d out r p e = subst (λ (x : Option ℕ). Placed n d out x) e p

shorter : (v : ℤ) → length (decimal (nat_abs v)) ≤ length (text v)
unfolding text
shorter (pos n) = omega arith
shorter (negsuc n) = omega arith

starred : (v : ℤ) (d x : List ℕ) (w : ℕ) → w ≡ length d → length d < length (text v) → x ≡ replicate w 42 → x ≡ integer_field v (length d)
unfolding integer_field justified
starred v d x w l h e = rw (lt-leb (length (text v)) (length d) h) (e ∙ ap (λ (k : ℕ). replicate k 42) l)

pub all_stars : (v : ℤ) (n : ℕ) (d out x : List ℕ) → n ≡ nat_abs v → Longer n d out → x ≡ replicate (length out) 42 → x ≡ integer_field v (length d)
all_stars v n d out x e s f =
    let h : length d < length (decimal n) = s.over in
    starred v d x (length out) s.long (omega (arith, shorter v, ap (λ (k : ℕ). length (decimal k)) e)) f

spaced : (v : ℤ) (d t x : List ℕ) (i : ℕ) → text v ≡ t → i + length t ≡ length d → x ≡ replicate i 32 → x ++ t ≡ integer_field v (length d)
unfolding integer_field justified
spaced v d t x i e l f =
    let q : length t ≤ length d = omega arith in
    let p : length d - length t ≡ i = omega arith in
    rw (e, le-leb (length t) (length d) q, p) (ap (λ (y : List ℕ). y ++ t) f)

module _ (v : ℤ) (n i : ℕ) (d out x : List ℕ) (e : n ≡ nat_abs v) where
  pub plus : v ≡ pos (nat_abs v) → Stands n d out i → x ≡ replicate (length (take i out)) 32 → x ++ drop i out ≡ integer_field v (length d)
  unfolding text
  plus p s f =
      let l : length out ≡ length d = s.long in
      let m : i ≤ length d = s.low in
      let k : i ≤ length out = omega arith in
      let here : text v ≡ drop i out = ap text p ∙ ap decimal (sym e) ∙ sym s.end in
      spaced v d (drop i out) x i here (omega (arith, length-drop i out)) (f ∙ ap (λ (y : ℕ). replicate y 32) (length-take-le i out k))

  module _ (p : v ≡ negsuc (nat_abs v - 1)) (s : Stands n d out i) where
    minus_text : text v ≡ 45 ∷ drop i out
    unfolding text
    minus_text = ap text p ∙ ap (λ (k : ℕ). 45 ∷ decimal k) (sym (e ∙ ap nat_abs p)) ∙ ap (λ (y : List ℕ). 45 ∷ y) (sym s.end)

    pub no_room : i ≡ 0 → x ≡ replicate (length out) 42 → x ≡ integer_field v (length d)
    no_room z f =
        let q : length (drop i out) ≡ length out = rw z refl in
        starred v d x (length out) s.long (omega (arith, s.long, ap length minus_text)) f

    pub minus : (i ≡ 0 → ⊥) → x ≡ replicate (length (take (i - 1) (set out (i - 1) 45))) 32
        → x ++ drop (i - 1) (set out (i - 1) 45) ≡ integer_field v (length d)
    minus z f =
        let l : length out ≡ length d = s.long in
        let m : i ≤ length d = s.low in
        let o : 0 < i = omega arith in
        let r : drop (i - 1) (set out (i - 1) 45) ≡ 45 ∷ drop i out = stored out i 45 o (omega arith) in
        let b : i - 1 ≤ length (set out (i - 1) 45) = omega (arith, length-set out (i - 1) 45) in
        let front = length-take-le (i - 1) (set out (i - 1) 45) b in
        spaced v d (drop (i - 1) (set out (i - 1) 45)) x (i - 1) (minus_text ∙ sym r)
        (omega (arith, length-drop (i - 1) (set out (i - 1) 45), length-set out (i - 1) 45)) (f ∙ ap (λ (y : ℕ). replicate y 32) front)

pub ruleset digits_written = (starts, ends, full)

pub ruleset field_written = (all_stars, plus, no_room, minus, at, too_long)

-- a field has its width
pub justified_length : (t : List ℕ) (w : ℕ) → length (justified t w) ≡ w
unfolding justified
justified_length t w = go (leb (length t) w) refl
  where
    go : (b : Bool) → leb (length t) w ≡ b → length (cond b (replicate (w - length t) 32 ++ t) (replicate w 42)) ≡ w
    go true e =
        let h : length t ≤ w = leb-true (length t) w e in
        omega (arith, length-append (replicate (w - length t) 32) t, length-replicate {A = ℕ} (w - length t) 32)
    go false e = length-replicate w 42

pub field_length : (v : ℤ) (w : ℕ) → length (integer_field v w) ≡ w
unfolding integer_field
field_length v w = justified_length (text v) w

-- ---- a number of 10 ^ j or more has more than j digits
many : (j k n : ℕ) (t : List ℕ) → 10 ^ j ≤ n → n ≤ k → j + length t < length (spelled k (ltb n 10) n t)
many zero k n t h l = let g = longer k (ltb n 10) n t in omega arith
many (suc j) k n t h l =
    let p : 10 ^ suc j ≡ 10 * 10 ^ j = pow-succ' 10 j in
    let o : 1 ≤ 10 ^ j = one-le-pow j 10 (zero-lt-suc 9) in
    let a : 10 ≤ n = omega arith in
    let b : 10 ^ j ≤ n / 10 = (le-div_iff_mul-le (zero-lt-suc 9)).1 (omega arith) in
    let c = many j (k - 1) (n / 10) ((48 + n % 10) ∷ t) b (omega arith) in
    omega (arith, ap length (turn k n t a l))

-- so it is stars in a field of j columns
pub stars : (v : ℤ) (j : ℕ) → 10 ^ j ≤ nat_abs v → integer_field v j ≡ replicate j 42
unfolding integer_field justified decimal
stars v j h =
    let g = many j (nat_abs v) (nat_abs v) [] h (omega arith) in
    rw (lt-leb (length (text v)) j (omega (arith, shorter v))) refl
