-- Laws of reading digits: the invariants of the loops. Assumes nothing.
use mathlib.Core.Path.{◌≡◌, refl, sym, ap, ◌∙◌}
use mathlib.Core.Bool.{Bool, true, false, ◌&&◌}
use mathlib.Core.List.{List, [], ◌∷◌}
use Prim.Native.Nat.{ℕ, suc, ◌+◌, ◌-◌, ◌*◌, ◌^◌, ◌≤◌, ◌<◌}
use native.Mathlib.Omega.{arith}
use native.Mathlib.Nat.{pow-le-pow_right, zero-lt-suc, lt_of_lt_of_le}
use native.Mathlib.Numerals.{add-one}
use borrow.Author.Tests.{eqb-true, eqb-false, leb-true, le-leb, lt-leb, ne_eqb}
use lib.Seq.{drop-cons, drop-length}
use lib.Dec.{eqb, leb}
use lib.ListN.{length, drop, get_or}
use Rattle.std.proofs.Common.{Option, Some, None}
use Rattle.std.specs.List.{starts_with}
use Rattle.std.specs.Char.{is_ascii_digit}
use Rattle.std.proofs.lemmas.Grind.{pow_more}
use Rattle.std.proofs.lemmas.List.{take_rest}
use Rattle.single.proofs.Booleans.{and_right}
use Rattle.field_reading.specs.Digits.{spaces_of, read_on, digits_of, with_sign, unspaced, signed_of}

-- ---- digits
pub record Digits (l : List ℕ) (n i : ℕ) : Type 0 where
  pub low : i ≤ length l
  pub small : n < 10 ^ i
  pub rest : read_on n (drop i l) ≡ read_on 0 l

pub digits_start : (l : List ℕ) → Digits l 0 0
digits_start l = record { low = omega arith; small = omega arith; rest = refl }

-- what is read before the last of at most 18 digits is small
pub below : (most : ℕ) (l : List ℕ) (n i : ℕ) → Digits l n i → i < length l → length l ≤ most → most ≤ 18 → n < 100000000000000000
below most l n i d h k m = let j : i ≤ 17 = omega arith in lt_of_lt_of_le d.small (pow-le-pow_right (zero-lt-suc 9) j)

pub digit_step : (l : List ℕ) (n i : ℕ) → Digits l n i → i < length l → is_ascii_digit (get_or l i 0) ≡ true
    → Digits l (n * 10 + (get_or l i 0 - 48)) (i + 1)
unfolding read_on
digit_step l n i d h t =
    let b = get_or l i 0 in
    let hi : b ≤ 57 = leb-true b 57 (and_right (leb 48 b) (leb b 57) t) in
    let step : read_on n (drop i l) ≡ read_on (n * 10 + (b - 48)) (drop (suc i) l) = rw (drop-cons l i 0 h, t) refl in
    record {
      low = omega arith;
      small = omega (arith, d.small, pow_more 10 i);
      rest = rw (add-one i) (sym step ∙ d.rest);
    }

-- of 1 to most bytes
read : (most : ℕ) (l : List ℕ) → 0 < length l → length l ≤ most → read_on 0 l ≡ digits_of most l
unfolding digits_of
read most l p h = rw (le-leb 1 (length l) p, le-leb (length l) most h) refl

pub no_digit : (most : ℕ) (l : List ℕ) (n i : ℕ) → 0 < length l → length l ≤ most → Digits l n i → i < length l
    → is_ascii_digit (get_or l i 0) ≡ false → None ≡ digits_of most l
unfolding read_on
no_digit most l n i p q d h t = (rw (drop-cons l i 0 h, t) at d.rest) ∙ read most l p q

pub digits_end : (most : ℕ) (l : List ℕ) (n i : ℕ) → 0 < length l → length l ≤ most → Digits l n i → length l ≤ i → Some n ≡ digits_of most l
unfolding read_on
digits_end most l n i p q d h =
    let a : i ≤ length l = d.low in
    let e : i ≡ length l = omega arith in
    (rw (e, drop-length l) at d.rest) ∙ read most l p q

pub empty : (most : ℕ) (l : List ℕ) → length l ≡ 0 → None ≡ digits_of most l
unfolding digits_of
empty most l e = rw e refl

pub too_many : (most : ℕ) (l : List ℕ) → most < length l → None ≡ digits_of most l
unfolding digits_of
too_many most l h = let p : 1 ≤ length l = omega arith in rw (le-leb 1 (length l) p, lt-leb (length l) most h) refl

pub ruleset digits_read = (below, digits_start, digit_step, no_digit, digits_end, empty, too_many)

-- ---- the sign
-- the text's first byte is a minus
minus_first : (t : List ℕ) → starts_with eqb t (45 ∷ []) ≡ eqb (get_or t 0 0) 45
minus_first [] = refl
minus_first (b ∷ t) = go (eqb b 45) refl
  where
    go : (v : Bool) → eqb b 45 ≡ v → (eqb 45 b && true) ≡ v
    go true e = let h : b ≡ 45 = eqb-true b 45 e in rw h refl
    go false e = rw (ne_eqb 45 b (λ (h : 45 ≡ b). eqb-false b 45 e (sym h))) refl

-- what follows the spaces, with a minus and without one
with_minus : (most : ℕ) (l : List ℕ) (r : Option ℕ) → starts_with eqb (drop (spaces_of l) l) (45 ∷ []) ≡ true
    → r ≡ digits_of most (drop 1 (drop (spaces_of l) l)) → with_sign true r ≡ signed_of most l
unfolding signed_of unspaced
with_minus most l r m e = rw (← minus_first (drop (spaces_of l) l), m) (ap (with_sign true) e)

without_minus : (most : ℕ) (l : List ℕ) (r : Option ℕ) → starts_with eqb (drop (spaces_of l) l) (45 ∷ []) ≡ false
    → r ≡ digits_of most (drop (spaces_of l) l) → with_sign false r ≡ signed_of most l
unfolding signed_of unspaced
without_minus most l r m e = rw (← minus_first (drop (spaces_of l) l), m) (ap (with_sign false) e)

pub minus_unread : (most : ℕ) (l : List ℕ) → starts_with eqb (drop (spaces_of l) l) (45 ∷ []) ≡ true
    → None ≡ digits_of most (drop 1 (drop (spaces_of l) l)) → None ≡ signed_of most l
minus_unread most l = with_minus most l None

pub unread : (most : ℕ) (l : List ℕ) → starts_with eqb (drop (spaces_of l) l) (45 ∷ []) ≡ false
    → None ≡ digits_of most (drop (spaces_of l) l) → None ≡ signed_of most l
unread most l = without_minus most l None

pub minus_read : (most : ℕ) (l : List ℕ) (n : ℕ) → starts_with eqb (drop (spaces_of l) l) (45 ∷ []) ≡ true
    → Some n ≡ digits_of most (drop 1 (drop (spaces_of l) l)) → Some (record { minus = true; magnitude = n }) ≡ signed_of most l
minus_read most l n = with_minus most l (Some n)

pub plus_read : (most : ℕ) (l : List ℕ) (n : ℕ) → starts_with eqb (drop (spaces_of l) l) (45 ∷ []) ≡ false
    → Some n ≡ digits_of most (drop (spaces_of l) l) → Some (record { minus = false; magnitude = n }) ≡ signed_of most l
plus_read most l n = without_minus most l (Some n)

pub ruleset signs_read = (take_rest, minus_unread, unread, minus_read, plus_read)
