-- What a card's range gives: both ends are whole numbers, in order, from 1 to 30, and the rows between them are filled. Assumes nothing.
use Prim.Native.Nat.{ℕ, ◌≤◌}
use mathlib.Core.Path.{◌≡◌, refl, sym, subst}
use mathlib.Core.Bool.{true, false, ◌&&◌}
use lib.Dec.{T, leb}
use lib.IntN.{ℤ, pos, negsuc, nat_abs}
use borrow.Author.Tests.{leb-true, le-leb}
use Rattle.single.proofs.Booleans.{and_left, and_right}
use Rattle.table.specs.Range.{is_range, is_filled}

pub record Range (first last : ℤ) : Type 0 where
  pub first_whole : first ≡ pos (nat_abs first)
  pub last_whole : last ≡ pos (nat_abs last)
  pub low : 1 ≤ nat_abs first
  pub order : nat_abs first ≤ nat_abs last
  pub high : nat_abs last ≤ 30

pub range_of_lem : (a b : ℤ) → is_range a b ≡ true → Range a b
unfolding is_range
range_of_lem (pos a) (pos b) e =
    let both = and_left (leb 1 a && leb a b) (leb b 30) e in
    record {
      first_whole = refl;
      last_whole = refl;
      low = leb-true 1 a (and_left (leb 1 a) (leb a b) both);
      order = leb-true a b (and_right (leb 1 a) (leb a b) both);
      high = leb-true b 30 (and_right (leb 1 a && leb a b) (leb b 30) e);
    }
range_of_lem (pos a) (negsuc b) e = absurd (subst T (sym (and_right (leb 1 a) false (and_left (leb 1 a && false) true e))) tt)
range_of_lem (negsuc a) b e = absurd (subst T (sym e) tt)

-- the filled rows are those from the first to the last MHz
pub filled_between : (first last : ℤ) → Range first last → (m : ℕ) → nat_abs first ≤ m → m ≤ nat_abs last → is_filled first last m ≡ true
filled_between first last r m low high =
    rw (r.first_whole, r.last_whole) (unfold is_filled in rw (le-leb (nat_abs first) m low, le-leb m (nat_abs last) high) refl)

pub filled_within : (first last : ℤ) → Range first last → (m : ℕ) → is_filled first last m ≡ true → (nat_abs first ≤ m) × (m ≤ nat_abs last)
filled_within first last r m e =
    let both : (leb (nat_abs first) m && leb m (nat_abs last)) ≡ true = unfold is_filled in rw (r.first_whole, r.last_whole) at e in (
      leb-true (nat_abs first) m (and_left (leb (nat_abs first) m) (leb m (nat_abs last)) both),
      leb-true m (nat_abs last) (and_right (leb (nat_abs first) m) (leb m (nat_abs last)) both),
    )
