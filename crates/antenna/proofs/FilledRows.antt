-- Document 02, C-11, of a card's lookup: its sentences as theorems. Assumes nothing.
use Prim.Native.Nat.{ℕ, suc, ◌-◌, ◌<◌, ◌≤◌}
use mathlib.Core.Path.{◌≡◌, refl, sym, ◌∙◌}
use mathlib.Core.Bool.{Bool, true, false, cond, not}
use mathlib.Core.List.{List}
use mathlib.Core.Logic.{◌≢◌}
use native.Mathlib.Omega.{arith}
use native.Mathlib.Nat.{le_refl}
use borrow.Author.Tests.{eqb-true, ne_eqb}
use lib.Dec.{eqb}
use lib.IntN.{ℤ, nat_abs}
use lib.Ieee.{Float, lt, le}
use Rattle.std.proofs.Math.Bool.{and-true}
use Rattle.single.specs.Single.{whole}
use Rattle.limits.specs.Tests.{outside}
use Rattle.table.specs.Range.{is_range, is_filled}
use Rattle.table.specs.Table.{is_table}
use Rattle.table.proofs.Range.{Range, range_of_lem, filled_between}
use Rattle.lookup_refusals.specs.LookupRefusals.{lookup_refusal, card_refusal}
use Rattle.lookup_refusals.proofs.Accepted.{accepted, card_accepted, card-range, card_refusal_lem}
use Rattle.antenna.specs.Places.{place_of}
use Rattle.antenna.specs.Rows.{row_of}
use Rattle.antenna.specs.InTable.{InTable}
use Rattle.antenna.specs.FilledRows.{SameFilled, alone_at, from_filled_rows}
use Rattle.antenna.specs.Lookups.{gain_lookup_number, gain_lookup_values, gain_lookup_of}
use Rattle.antenna.specs.Lookups.{zeros, card_values, card_lookup_number, card_lookup_values, card_lookup_of}
use Rattle.refusals.specs.Refusals.{answered}
use Rattle.std.specs.declared.result.Result.TheVariants.{Ok}
use Rattle.antenna.specs.declared.places.Place.{Place}
use Rattle.antenna.proofs.Between.{cut_between, not_below_first}
use Rattle.antenna.proofs.Bounds.{low_in, high_in}
use Rattle.antenna.proofs.CardRows.{ends_in}

-- ---- 'blends only between filled rows'
pub between_filled : (first last : ℕ) (fmc delta : Float) → 1 ≤ first → first ≤ 30 → last ≤ 30 → outside fmc ≡ false
    → lt fmc (whole first) ≡ false → le (whole last) fmc ≡ false
    → let p = place_of fmc delta in (first ≤ p.i) × (p.i < last) × (p.ip1 ≡ suc p.i)
unfolding place_of
between_filled first last fmc delta a b d o low high = cut_between first last fmc a b d o low high

pub blends_filled : (first last : ℤ) (fmc delta : Float) → is_range first last ≡ true → outside fmc ≡ false
    → lt fmc (whole (nat_abs first)) ≡ false → le (whole (nat_abs last)) fmc ≡ false
    → let p = place_of fmc delta in (is_filled first last p.i ≡ true) × (is_filled first last p.ip1 ≡ true)
blends_filled first last fmc delta e o low high =
    let r = range_of_lem first last e in
    let b = between_filled (nat_abs first) (nat_abs last) fmc delta r.low (omega (arith, r.order, r.high)) r.high o low high in
    let p = place_of fmc delta in
    let lower = filled_between first last r p.i b.0 (omega (arith, b.1)) in
    (lower, filled_between first last r p.ip1 (omega (arith, b.0, b.2)) (omega (arith, b.1, b.2)))

-- ---- an accepted card
module _ (first last : ℤ) (t : List Float) (fmc delta : Float) (r : is_range first last ≡ true) where
  passes : (n : ℕ) (b : Bool) → b ≡ true → cond (eqb n 0) (cond (not b) 4 0) n ≡ n
  passes n b e = rw e (go (eqb n 0) (eqb-true n 0))
    where
      go : (a : Bool) → (a ≡ true → n ≡ 0) → cond a 0 n ≡ n
      go true f = sym (f refl)
      go false f = refl

  pub card_number : card_lookup_number first last 0 t fmc delta ≡ gain_lookup_number t fmc delta
  card_number = card_refusal_lem first last 0 t fmc delta ∙ passes (lookup_refusal t fmc delta) (is_range first last) r

  -- from its first MHz to below its last it is `gain_lookup`, on any table: demand 2's comparison
  pub card_values_lem : lt fmc (whole (nat_abs first)) ≡ false → le (whole (nat_abs last)) fmc ≡ false
      → card_lookup_values first last 0 t fmc delta ≡ gain_lookup_values t fmc delta
  unfolding card_lookup_values gain_lookup_values from_filled_rows
  card_values_lem low high = rw (card_number, and-true (eqb (lookup_refusal t fmc delta) 0), low, high)

  pub card_answer : lt fmc (whole (nat_abs first)) ≡ false → le (whole (nat_abs last)) fmc ≡ false
      → card_lookup_of first last 0 t fmc delta ≡ gain_lookup_of t fmc delta
  unfolding card_lookup_of gain_lookup_of from_filled_rows
  card_answer low high = rw (card_number, low, high)

  -- 'Below the first MHz it takes the first row alone'
  pub first_row_alone : lookup_refusal t fmc delta ≡ 0 → lt fmc (whole (nat_abs first)) ≡ true
      → card_lookup_of first last 0 t fmc delta ≡ Ok (alone_at (place_of fmc delta) t (nat_abs first))
  unfolding card_lookup_of from_filled_rows
  first_row_alone z low = rw (card_number, z, low) refl

  -- 'from the last MHz up the last row alone'
  pub last_row_alone : lookup_refusal t fmc delta ≡ 0 → le (whole (nat_abs last)) fmc ≡ true
      → card_lookup_of first last 0 t fmc delta ≡ Ok (alone_at (place_of fmc delta) t (nat_abs last))
  unfolding card_lookup_of from_filled_rows
  last_row_alone z high =
      let g = range_of_lem first last r in
      let o = (accepted t fmc delta z).1 in
      let low = not_below_first (nat_abs first) (nat_abs last) fmc g.low g.order g.high o high in
      rw (card_number, z, low, high) refl

-- 'A refused card, having none, still gives zeros'
pub refused_card_zeros : (first last : ℤ) (verdict : ℕ) (t : List Float) (fmc delta : Float) → lookup_refusal t fmc delta ≡ 0 → verdict ≢ 0
    → card_lookup_of first last verdict t fmc delta ≡ Ok zeros
unfolding card_lookup_of
refused_card_zeros first last verdict t fmc delta z v = rw (card_refusal_lem first last verdict t fmc delta, z, ne_eqb verdict 0 v) refl

-- ---- nothing but the filled rows counts: of any card and call, refused or not
module _ (first last : ℤ) (verdict : ℕ) (t u : List Float) (fmc delta : Float) (s : SameFilled first last t u) where
  number_same : card_refusal first last verdict t fmc delta ≡ card_refusal first last verdict u fmc delta
  unfolding card_refusal is_table
  number_same = rw s.lengths refl

  row_same : (m j jp1 : ℕ) → InTable m j jp1 → is_filled first last m ≡ true → row_of t m j jp1 ≡ row_of u m j jp1
  unfolding row_of
  row_same m j jp1 i f =
      let gain = s.gains m (j - 1) f (omega (arith, i.column, i.most)) in
      let above = s.gains m (jp1 - 1) f (omega (arith, i.next, i.end)) in
      rw (gain, above, s.efficiencies m f) refl

  values_same : is_range first last ≡ true → outside fmc ≡ false → card_values first last t fmc delta ≡ card_values first last u fmc delta
  unfolding from_filled_rows
  values_same e o = go (lt fmc (whole (nat_abs first))) (le (whole (nat_abs last)) fmc) refl refl
    where
      r : Range first last
      r = range_of_lem first last e

      p : Place
      p = place_of fmc delta

      ends : InTable (nat_abs first) p.j p.jp1 × InTable (nat_abs last) p.j p.jp1
      ends = ends_in first last fmc delta r

      go : (a b : Bool) → lt fmc (whole (nat_abs first)) ≡ a → le (whole (nat_abs last)) fmc ≡ b
          → card_values first last t fmc delta ≡ card_values first last u fmc delta
      go true b low high = rw (low, row_same _ _ _ ends.0 (filled_between first last r _ (le_refl _) r.order)) refl
      go false true low high = rw (low, high, row_same _ _ _ ends.1 (filled_between first last r _ r.order (le_refl _))) refl
      go false false low high =
          let f = blends_filled first last fmc delta e o low high in
          rw (low, high, row_same _ _ _ (low_in fmc delta) f.0, row_same _ _ _ (high_in fmc delta) f.1) refl

  pub only_filled_rows : card_lookup_of first last verdict t fmc delta ≡ card_lookup_of first last verdict u fmc delta
  unfolding card_lookup_of
  only_filled_rows = rw number_same (go (eqb (card_refusal first last verdict u fmc delta) 0) (eqb verdict 0) refl refl)
    where
      go : (a b : Bool) → eqb (card_refusal first last verdict u fmc delta) 0 ≡ a → eqb verdict 0 ≡ b
          → answered (card_refusal first last verdict u fmc delta) (cond (eqb verdict 0) (card_values first last t fmc delta) zeros)
          ≡ answered (card_refusal first last verdict u fmc delta) (cond (eqb verdict 0) (card_values first last u fmc delta) zeros)
      go false b e v = rw e refl
      go true false e v = rw (e, v) refl
      go true true e v =
          let z = eqb-true (card_refusal first last verdict u fmc delta) 0 e in
          let range = card-range first last verdict u fmc delta z v in
          rw (e, v, values_same range (card_accepted first last verdict u fmc delta z).1) refl
