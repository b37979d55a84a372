-- How large a number read from columns can be. Assumes nothing.
use mathlib.Core.Path.{◌≡◌, refl, sym, ap, subst, ◌∙◌}
use mathlib.Core.Bool.{Bool, true, false, cond, ◌&&◌}
use mathlib.Core.List.{List, [], ◌∷◌}
use Prim.Native.Nat.{ℕ, suc, ◌+◌, ◌-◌, ◌*◌, ◌^◌, ◌≤◌, ◌<◌}
use native.Mathlib.Omega.{arith}
use native.Mathlib.Nat.{pow-succ', pow-le-pow_right, zero-lt-suc, le_trans, le_of_eq, lt_of_lt_of_le, mul_assoc, mul-le-mul_right, one-mul}
use borrow.Author.Tests.{leb-true}
use lib.Dec.{leb, eqb, lit≤}
use lib.IntN.{ℤ, nat_abs}
use lib.ListN.{length, drop, get_or, length-drop}
use mir.Syntax.{w64}
use mir.Val.{SFits}
use Rattle.single.proofs.Booleans.{and_right}
use Rattle.field_reading.specs.declared.reading.Signed.{Signed}
use Rattle.std.proofs.Common.{Option, Some, None}
use Rattle.single.specs.Single.{signed}
use Rattle.field_reading.specs.Digits.{spaces_of, read_on, digits_of, with_sign, unspaced, signed_of}
use Rattle.field_reading.specs.Integer.{integer, integer_of}
use Rattle.single.proofs.Integers.{within, signed-size}

-- a number that was read is below k
abbrev pub Below : Option ℕ → ℕ → Type 0
Below (Some n) k = n < k
Below None k = Unit {0}

-- and so is a magnitude
abbrev pub SignedBelow : Option Signed → ℕ → Type 0
SignedBelow (Some s) k = s.magnitude < k
SignedBelow None k = Unit {0}

grows : (r : Option ℕ) (a b : ℕ) → a ≤ b → Below r a → Below r b
grows (Some n) a b h p = lt_of_lt_of_le p h
grows None a b h p = tt

wider : (r : Option ℕ) (a b : ℕ) → a ≤ b → Below r (10 ^ a) → Below r (10 ^ b)
wider r a b h = grows r (10 ^ a) (10 ^ b) (pow-le-pow_right (zero-lt-suc 9) h)

read_below : (n : ℕ) (l : List ℕ) → Below (read_on n l) ((n + 1) * 10 ^ length l)
unfolding read_on
read_below n [] = omega arith
read_below n (b ∷ l) = go (leb 48 b && leb b 57) refl (read_below (n * 10 + (b - 48)) l)
  where
    go : (t : Bool) → leb 48 b && leb b 57 ≡ t → Below (read_on (n * 10 + (b - 48)) l) ((n * 10 + (b - 48) + 1) * 10 ^ length l)
        → Below (cond t (read_on (n * 10 + (b - 48)) l) None) ((n + 1) * 10 ^ suc (length l))
    go false e rec = tt
    go true e rec =
        let h : b ≤ 57 = leb-true b 57 (and_right (leb 48 b) (leb b 57) e) in
        let z : n * 10 + (b - 48) + 1 ≤ (n + 1) * 10 = omega arith in
        let e = mul_assoc (n + 1) 10 (10 ^ length l) ∙ ap (λ (x : ℕ). (n + 1) * x) (sym (pow-succ' 10 (length l))) in
        grows (read_on (n * 10 + (b - 48)) l) ((n * 10 + (b - 48) + 1) * 10 ^ length l) ((n + 1) * 10 ^ suc (length l))
        (le_trans (mul-le-mul_right (10 ^ length l) z) (le_of_eq e)) rec

-- by the columns, and by the most digits
all-below : (l : List ℕ) → Below (read_on 0 l) (10 ^ length l)
all-below l = grows (read_on 0 l) (1 * 10 ^ length l) (10 ^ length l) (le_of_eq (one-mul (10 ^ length l))) (read_below 0 l)

digits_within : (most : ℕ) (l : List ℕ) → Below (digits_of most l) (10 ^ length l)
unfolding digits_of
digits_within most l = go (leb 1 (length l) && leb (length l) most)
  where
    go : (t : Bool) → Below (cond t (read_on 0 l) None) (10 ^ length l)
    go false = tt
    go true = all-below l

pub digits_below : (most : ℕ) (l : List ℕ) → Below (digits_of most l) (10 ^ most)
unfolding digits_of
digits_below most l = go (leb 1 (length l) && leb (length l) most) refl
  where
    go : (t : Bool) → leb 1 (length l) && leb (length l) most ≡ t → Below (cond t (read_on 0 l) None) (10 ^ most)
    go false e = tt
    go true e = wider (read_on 0 l) (length l) most (leb-true (length l) most (and_right (leb 1 (length l)) (leb (length l) most) e)) (all-below l)

-- what bounds digits bounds a signed number
signed_from : (most k : ℕ) (l : List ℕ) → ((t : List ℕ) → length t ≤ length l → Below (digits_of most t) k)
    → SignedBelow (signed_of most l) k
unfolding signed_of unspaced
signed_from most k l f = go (eqb (get_or t 0 0) 45)
  where
    t : List ℕ
    t = drop (spaces_of l) l

    with : (minus : Bool) (r : Option ℕ) → Below r k → SignedBelow (with_sign minus r) k
    with minus (Some n) h = h
    with minus None h = tt

    go : (minus : Bool) → SignedBelow (cond minus (with_sign true (digits_of most (drop 1 t))) (with_sign false (digits_of most t))) k
    go true = with true _ (f (drop 1 t) (omega (arith, length-drop 1 t, length-drop (spaces_of l) l)))
    go false = with false _ (f t (omega (arith, length-drop (spaces_of l) l)))

pub signed_within : (most : ℕ) (l : List ℕ) → SignedBelow (signed_of most l) (10 ^ length l)
signed_within most l =
    signed_from most (10 ^ length l) l (λ (t : List ℕ) (h : length t ≤ length l). wider (digits_of most t) (length t) (length l) h (digits_within most t))

pub signed_below : (most : ℕ) (l : List ℕ) → SignedBelow (signed_of most l) (10 ^ most)
signed_below most l = signed_from most (10 ^ most) l (λ (t : List ℕ) (h : length t ≤ length l). digits_below most t)

pub bound : (r : Option ℕ) (n k : ℕ) (q : Option ℕ) → r ≡ q → r ≡ Some n → Below q k → n < k
bound r n k q e f h = subst (λ (x : Option ℕ). Below x k) (sym e ∙ f) h

pub signed_bound : (r : Option Signed) (s : Signed) (k : ℕ) (q : Option Signed) → r ≡ q → r ≡ Some s → SignedBelow q k → s.magnitude < k
signed_bound r s k q e f h = subst (λ (x : Option Signed). SignedBelow x k) (sym e ∙ f) h

-- ---- an integer field
number_below : (r : Option Signed) (z : ℤ) (k : ℕ) → integer r ≡ Some z → SignedBelow r k → nat_abs z < k
unfolding integer
number_below (Some s) z k e b = let h : signed s.minus s.magnitude ≡ z = cc in omega (arith, ap nat_abs h, signed-size s.minus s.magnitude)
number_below None z k e b = absurd (cc)

-- a field of w columns is below 10 ^ w
pub integer_within : (l : List ℕ) (z : ℤ) → integer_of l ≡ Some z → nat_abs z < 10 ^ length l
unfolding integer_of
integer_within l z e = number_below (signed_of 18 l) z (10 ^ length l) e (signed_within 18 l)

-- so its answer is an i64's
pub integer_fits : (l : List ℕ) (z : ℤ) → integer_of l ≡ Some z → SFits w64 z
unfolding integer_of
integer_fits l z e = within w64 z (lt_of_lt_of_le (number_below (signed_of 18 l) z (10 ^ 18) e (signed_below 18 l)) (lit≤ tt))
