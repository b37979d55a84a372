-- Refusal 8 arises in a field where, and only where, its bytes are no number; there the value is 0. Assumes nothing.
use Prim.Native.Nat.{ℕ, ◌+◌, ◌-◌, ◌*◌}
use mathlib.Core.Path.{◌≡◌, refl, ap, ◌∙◌}
use mathlib.Core.Bool.{Bool, true, false, cond, ◌&&◌}
use mathlib.Core.List.{List, [], ◌∷◌}
use mathlib.Core.Logic.{◌⊎◌, inl, inr}
use native.Mathlib.Omega.{arith}
use lib.Dec.{leb, eqb}
use lib.IntN.{ℤ, pos}
use Rattle.std.proofs.Common.{Option, Some, None}
use Rattle.std.specs.Option.{is_some}
use lib.Ieee.{Float, fin}
use lib.ListN.{length, take, drop, get_or}
use Rattle.single.specs.Answer.{IsAnswer}
use Rattle.single.proofs.Answer.{answers}
use Rattle.field_reading.specs.Digits.{spaces_of, read_on, digits_of, with_sign, unspaced, signed_of}
use Rattle.field_reading.specs.Integer.{integer, integer_of, integer_number, integer_value}
use Rattle.field_reading.specs.Decimal.{ten_thousandths, pointed, decimal_of, decimal_number, decimal_value}
use Rattle.field_reading.specs.Malformed.{all_digits, is_digits, is_unspaced, is_signed, is_integer, is_decimal}
use Rattle.field_reading.specs.declared.reading.Signed.{Signed}

-- a test before a reading
tested : {A : Type 0} (d : Bool) (s : Option A) (ok : Bool) → is_some s ≡ ok → is_some (cond d s None) ≡ (d && ok)
tested true s ok e = e
tested false s ok e = refl

read_on_lem : (n : ℕ) (l : List ℕ) → is_some (read_on n l) ≡ all_digits l
unfolding read_on all_digits
read_on_lem n [] = refl
read_on_lem n (b ∷ l) = tested (leb 48 b && leb b 57) _ _ (read_on_lem (n * 10 + (b - 48)) l)

digits_read : (most : ℕ) (l : List ℕ) → is_some (digits_of most l) ≡ is_digits most l
unfolding digits_of is_digits
digits_read most l = tested (leb 1 (length l) && leb (length l) most) _ _ (read_on_lem 0 l)

sign_read : (minus : Bool) (r : Option ℕ) → is_some (with_sign minus r) ≡ is_some r
sign_read minus (Some n) = refl
sign_read minus None = refl

unspaced_read : (most : ℕ) (l : List ℕ) → is_some (unspaced most l) ≡ is_unspaced most l
unfolding unspaced is_unspaced
unspaced_read most l = go (eqb (get_or l 0 0) 45)
  where
    go : (minus : Bool) → is_some (cond minus (with_sign true (digits_of most (drop 1 l))) (with_sign false (digits_of most l)))
        ≡ cond minus (is_digits most (drop 1 l)) (is_digits most l)
    go true = sign_read true (digits_of most (drop 1 l)) ∙ digits_read most (drop 1 l)
    go false = sign_read false (digits_of most l) ∙ digits_read most l

signed_read : (most : ℕ) (l : List ℕ) → is_some (signed_of most l) ≡ is_signed most l
unfolding signed_of is_signed
signed_read most l = unspaced_read most (drop (spaces_of l) l)

of_signed : (s : Option Signed) → integer_number (integer s) ≡ cond (is_some s) 0 8
unfolding integer
of_signed (Some s) = refl
of_signed None = refl

of_parts : (a : Option Signed) (p : ℕ) (f : Option ℕ) → decimal_number (pointed a p f) ≡ cond (is_some a && (is_some f && eqb p 46)) 0 8
unfolding pointed
of_parts None p f = refl
of_parts (Some s) p None = refl
of_parts (Some s) p (Some b) = go (ten_thousandths s.minus (s.magnitude * 10000 + b)) (eqb p 46)
  where
    go : (x : Float) (point : Bool) → decimal_number (cond point (Some x) None) ≡ cond point 0 8
    go x true = refl
    go x false = refl

-- ---- what is promised
pub integer_reading : (l : List ℕ) (r : Option ℤ) → r ≡ integer_of l → IsAnswer integer_number integer_value (pos 0) 8 (integer_of l) (is_integer l) r
unfolding integer_of is_integer
integer_reading l =
    answers integer_number integer_value (pos 0) 8 (omega arith) cases (integer_of l) (is_integer l)
    (of_signed (signed_of 18 l) ∙ ap (λ (b : Bool). cond b 0 8) (signed_read 18 l))
  where
    cases : (a : Option ℤ) → (integer_number a ≡ 0) ⊎ (integer_value a ≡ pos 0)
    cases (Some n) = inl refl
    cases None = inr refl

pub decimal_reading : (l : List ℕ) (r : Option Float) → r ≡ decimal_of l
    → IsAnswer decimal_number decimal_value (fin false 0 (pos 0)) 8 (decimal_of l) (is_decimal l) r
unfolding decimal_of is_decimal
decimal_reading l =
    let a = signed_of 4 (take (length l - 5) l) in
    let f = digits_of 4 (drop (length l - 4) l) in
    answers decimal_number decimal_value (fin false 0 (pos 0)) 8 (omega arith) cases (decimal_of l) (is_decimal l)
    (rw (← signed_read 4 (take (length l - 5) l), ← digits_read 4 (drop (length l - 4) l)) (of_parts a (get_or l (length l - 5) 0) f))
  where
    cases : (a : Option Float) → (decimal_number a ≡ 0) ⊎ (decimal_value a ≡ fin false 0 (pos 0))
    cases (Some x) = inl refl
    cases None = inr refl
