-- The answers of `read_line`, by what was read. Assumes nothing.
use mathlib.Core.Path.{◌≡◌, refl, ap, ◌∙◌}
use mathlib.Core.Bool.{false, and-false}
use mathlib.Core.List.{List}
use Prim.Native.Nat.{ℕ, ◌<◌}
use borrow.Author.Tests.{eq-eqb}
use lib.Dec.{eqb, lit≤}
use lib.IntN.{ℤ}
use lib.ListN.{length, get_or}
use lib.Ieee.{Float, nan}
use Rattle.std.proofs.Common.{Some, None}
use Rattle.field_reading.specs.Integer.{integer_number}
use Rattle.field_reading.specs.Decimal.{decimal_value}
use Rattle.cards.specs.declared.fields.Fields.{Fields}
use Rattle.card_line.specs.Line.{integer_at, decimal_at, integers_read, decimals_read, fields_of, is_well_formed, fields_in, line_of}
use Rattle.card_line.specs.TenFields.{Values}
use Rattle.card_line.proofs.Laws.{wrong_length}
use Rattle.card_line.proofs.Integers.{narrowed, narrowed_is}

-- ---- malformed
module _ (l : List ℕ) where
  refused : is_well_formed l ≡ false → None ≡ line_of l
  unfolding line_of
  refused e = rw e refl

  no_integer : integers_read l ≡ false → None ≡ line_of l
  unfolding is_well_formed
  no_integer e = refused (rw e (and-false (eqb (length l) 119)))

  pub no_type : integer_at l 0 ≡ None → None ≡ line_of l
  unfolding integers_read
  no_type e = no_integer (rw e refl)

  pub no_first : integer_at l 3 ≡ None → None ≡ line_of l
  unfolding integers_read
  no_first e = no_integer (rw e (and-false (eqb (integer_number (integer_at l 0)) 0)))

  pub no_last : integer_at l 6 ≡ None → None ≡ line_of l
  unfolding integers_read
  no_last e = no_integer (rw (e, and-false (eqb (integer_number (integer_at l 3)) 0)) (and-false (eqb (integer_number (integer_at l 0)) 0)))

  pub no_decimals : decimals_read l 10 ≡ false → None ≡ line_of l
  unfolding is_well_formed
  no_decimals e = refused (rw (e, and-false (integers_read l)) (and-false (eqb (length l) 119)))

-- ---- well formed
fields_same : (kop first last kop' first' last' : ℤ) (f g : ℕ → Float) → kop ≡ kop' → first ≡ first' → last ≡ last'
    → ((k : ℕ) → k < 10 → f k ≡ g k) → fields_of kop first last f ≡ fields_of kop' first' last' g
unfolding fields_of
fields_same kop first last kop' first' last' f g p q r h =
    rw (p, q, r, h 0 (lit≤ tt), h 1 (lit≤ tt), h 2 (lit≤ tt), h 3 (lit≤ tt), h 4 (lit≤ tt), h 5 (lit≤ tt))
    (rw (h 6 (lit≤ tt), h 7 (lit≤ tt), h 8 (lit≤ tt), h 9 (lit≤ tt)) refl)

pub all_read : (l : List ℕ) (kop first last : ℤ) (v : List Float) (f : Fields) → length l ≡ 119
    → integer_at l 0 ≡ Some kop → integer_at l 3 ≡ Some first → integer_at l 6 ≡ Some last → Values l v
    → f ≡ fields_of (narrowed kop) (narrowed first) (narrowed last) (λ k. get_or v k nan) → Some f ≡ line_of l
unfolding line_of is_well_formed fields_in integers_read
all_read l kop first last v f n t s e d i =
    let values = λ (k : ℕ). get_or v k nan in
    let same =
    fields_same (narrowed kop) (narrowed first) (narrowed last) _ _ _ values (λ k. decimal_value (decimal_at l k))
    (narrowed_is l 0 kop t) (narrowed_is l 3 first s) (narrowed_is l 6 last e) d.each in
    rw (eq-eqb (length l) 119 n, ap integer_number t, ap integer_number s, ap integer_number e, d.all)
    (ap Some (i ∙ same))

pub ruleset lines_read = (wrong_length, no_type, no_first, no_last, no_decimals)
