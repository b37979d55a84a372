-- Laws of the hundredths' field. Assumes nothing.
use Rattle.std.proofs.Common.{◌≡◌, ℕ, ◌+◌, ◌-◌, ◌*◌, ◌^◌, ◌<◌, ◌≤◌, Bool, true, false, cond, ltb, List, [], length, take}
use Rattle.std.proofs.Common.{drop, replicate, ℤ, nat_abs, sym, refl, ap, ◌∙◌, zero-lt-suc, div-lt_iff_lt-mul}
use Rattle.std.proofs.Common.{le-div_iff_mul-le, arith, w64, SFits, to_z, of_z, ltb-false, ltb-true, le-leb, length-drop}
use native.Mathlib.Nat.{pow-le-pow_right}
use borrow.Author.Tests.{lt-leb}
use lib.ListN.{length-replicate, drop_of_length-le}
use borrow.Rule.Slice.PartMut.{put_mid}
use Rattle.std.proofs.lemmas.List.{take-replicate}
use lib.Ieee.{Float, nan, inf, fin, up, down}
use lib.Ieee.Fits.{down_pos}
use mir.ValLaws.{to_z-of_z}
use Rattle.output.specs.declared.rounding.Hundredths.{Hundredths}
use Rattle.output.specs.declared.rounding.Hundredths.TheVariants.{NotANumber, Over, Whole}
use Rattle.output.specs.Field.{justified, integer_field}
use Rattle.output.specs.Hundredths.{half_up, hundredfold, hundredths_of, nan_text, printed, hundredths_field}
use Rattle.single.specs.Single.{signed}
use Rattle.single.proofs.Integers.{within, signed-size}
use Rattle.output.proofs.Field.{field_length, justified_length, stars}

-- ---- NaN
pub nan_short : (w : ℕ) (l : List ℕ) → w < 3 → l ≡ replicate w 42 → l ≡ justified nan_text w
unfolding justified
nan_short w l h e = rw (lt-leb 3 w h) e

pub nan_long : (w : ℕ) (l y : List ℕ) → 3 ≤ w → l ≡ replicate w 32 → y ≡ nan_text → put_mid (w - 3) (length l - (w - 3)) l y ≡ justified nan_text w
unfolding justified
nan_long w l y h e f =
    let m : length l ≡ w = ap length e ∙ length-replicate w 32 in
    let front : take (w - 3) l ≡ replicate (w - 3) 32 = ap (take (w - 3)) e ∙ take-replicate (w - 3) w 32 (omega arith) in
    let back : drop (length l - (w - 3)) (drop (w - 3) l) ≡ [] = drop_of_length-le (drop (w - 3) l) (omega (arith, length-drop (w - 3) l)) in
    rw (le-leb 3 w h, back, front, f) refl

pub ruleset nan_printed = (nan_short, nan_long)

-- ---- a whole number of hundredths fits an i64
half_up_below : (a b : ℕ) → 0 < b → a < 2 ^ 56 * b → half_up (100 * a) b ≤ 100 * 2 ^ 56
half_up_below a b B h =
    let z : half_up (100 * a) b < 100 * 2 ^ 56 + 1 = (div-lt_iff_lt-mul (let y : 0 < 2 * b = omega arith in y)).1 (omega arith) in
    omega arith

never : (z : ℤ) → Over ≡ Whole z → ⊥
never z e = let w : ◌≡◌ {A = ℕ} 0 1 = cc in omega arith

same : (y z : ℤ) → Whole y ≡ Whole z → y ≡ z
same y z e = cc

pub whole_bound : (x : Float) (z : ℤ) → hundredths_of x ≡ Whole z → nat_abs z ≤ 100 * 2 ^ 56
unfolding hundredths_of
whole_bound nan z e = absurd (let w : ◌≡◌ {A = ℕ} 0 1 = cc in omega arith)
whole_bound (inf s) z e = absurd (never z e)
whole_bound (fin s m e) z h = go (ltb (m * up e) (2 ^ 56 * down e)) refl h
  where
    go : (t : Bool) → ltb (m * up e) (2 ^ 56 * down e) ≡ t
        → cond t (Whole (signed s (half_up (100 * (m * up e)) (down e)))) Over ≡ Whole z → nat_abs z ≤ 100 * 2 ^ 56
    go false t h = absurd (never z h)
    go true t h =
        let b = half_up_below (m * up e) (down e) (down_pos e) (ltb-true (m * up e) (2 ^ 56 * down e) t) in
        omega (arith, ap nat_abs (same (signed s (half_up (100 * (m * up e)) (down e))) z h), signed-size s (half_up (100 * (m * up e)) (down e)))

pub whole_fits : (x : Float) (z : ℤ) → hundredths_of x ≡ Whole z → SFits w64 z
whole_fits x z h = within w64 z (let b = whole_bound x z h in omega arith)

-- ---- the three cases
pub prints_whole : (x : Float) (r : Hundredths) (z : ℤ) (w : ℕ) (l : List ℕ) → r ≡ hundredths_of x → r ≡ Whole z
    → l ≡ integer_field (to_z w64 (of_z w64 z)) w → l ≡ hundredths_field x w
unfolding hundredths_field printed
prints_whole x r z w l e f g =
    let h : hundredths_of x ≡ Whole z = sym e ∙ f in
    rw h (g ∙ ap (λ (y : ℤ). integer_field y w) (to_z-of_z w64 z (whole_fits x z h)))

pub prints_over : (x : Float) (r : Hundredths) (w : ℕ) (l : List ℕ) → r ≡ hundredths_of x → r ≡ Over → l ≡ replicate w 42 → l ≡ hundredths_field x w
unfolding hundredths_field printed
prints_over x r w l e f g = let h : hundredths_of x ≡ Over = sym e ∙ f in rw h g

pub prints_nan : (x : Float) (r : Hundredths) (w : ℕ) (l : List ℕ) → r ≡ hundredths_of x → r ≡ NotANumber → l ≡ justified nan_text w → l ≡ hundredths_field x w
unfolding hundredths_field printed
prints_nan x r w l e f g = let h : hundredths_of x ≡ NotANumber = sym e ∙ f in rw h g

pub ruleset cases_printed = (prints_whole, prints_over, prints_nan)

-- ---- in 18 columns or fewer the limit 2 ^ 56 does not show: the field is that of the whole number, however large
half_up_above : (a b : ℕ) → 0 < b → 2 ^ 56 * b ≤ a → 100 * 2 ^ 56 ≤ half_up (100 * a) b
half_up_above a b B h = (le-div_iff_mul-le (let y : 0 < 2 * b = omega arith in y)).1 (omega arith)

pub exact_in_18 : (s : Bool) (m : ℕ) (e : ℤ) (w : ℕ) → w ≤ 18 → hundredths_field (fin s m e) w ≡ integer_field (signed s (hundredfold m e)) w
unfolding hundredths_field printed hundredths_of
exact_in_18 s m e w h = go (ltb (m * up e) (2 ^ 56 * down e)) refl
  where
    go : (t : Bool) → ltb (m * up e) (2 ^ 56 * down e) ≡ t
        → printed (cond t (Whole (signed s (hundredfold m e))) Over) w ≡ integer_field (signed s (hundredfold m e)) w
    go true t = refl
    go false t =
        let b = half_up_above (m * up e) (down e) (down_pos e) (ltb-false (m * up e) (2 ^ 56 * down e) t) in
        let l : 10 ^ w ≤ 10 ^ 18 = pow-le-pow_right (zero-lt-suc 9) h in
        sym (stars (signed s (hundredfold m e)) w (omega (arith, signed-size s (hundredfold m e))))

-- ---- the field has its width
pub hundredths_field_length : (x : Float) (w : ℕ) → length (hundredths_field x w) ≡ w
unfolding hundredths_field printed
hundredths_field_length x w = go (hundredths_of x)
  where
    go : (h : Hundredths) → length (printed h w) ≡ w
    go NotANumber = justified_length nan_text w
    go Over = length-replicate w 42
    go (Whole n) = field_length n w
