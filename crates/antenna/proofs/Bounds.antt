-- The rows and columns that a lookup reads are the table's. Assumes nothing.
use Prim.Native.Nat.{ℕ, suc, ◌<◌, ◌≤◌}
use mathlib.Core.Path.{◌≡◌, refl}
use mathlib.Core.Bool.{Bool, true, false, cond}
use native.Mathlib.Omega.{arith}
use native.Mathlib.Nat.{le_refl}
use lib.Dec.{ltb, lit≤}
use lib.IntN.{ℤ, pos, negsuc}
use lib.Ieee.{Float}
use borrow.Author.Tests.{ltb-true, ltb-false}
use Rattle.table.specs.Table.{row_count, column_count}
use Rattle.antenna.specs.Places.{clamped, next_of, place_of}
use Rattle.antenna.specs.InTable.{InTable}

pub clamped_within : (z : ℤ) (most : ℕ) → 1 ≤ most → (1 ≤ clamped z most) × (clamped z most ≤ most)
unfolding clamped
clamped_within (negsuc k) most h = (omega arith, h)
clamped_within (pos k) most h = go (ltb k 1) (ltb k most) (ltb-false k 1) (ltb-true k most)
  where
    go : (a b : Bool) → (a ≡ false → 1 ≤ k) → (b ≡ true → k < most) → (1 ≤ cond a 1 (cond b k most)) × (cond a 1 (cond b k most) ≤ most)
    go true b f g = (omega arith, h)
    go false true f g = (f refl, let l : k < most = g refl in omega arith)
    go false false f g = (h, le_refl most)

next_within : (n most : ℕ) → 1 ≤ n → n ≤ most → (1 ≤ next_of n most) × (next_of n most ≤ most)
unfolding next_of
next_within n most l h = go (ltb n most) (ltb-true n most)
  where
    go : (a : Bool) → (a ≡ true → n < most) → (1 ≤ cond a (suc n) most) × (cond a (suc n) most ≤ most)
    go true f = (omega arith, f refl)
    go false f = (omega arith, le_refl most)

module _ (fmc delta : Float) where
  place : let p = place_of fmc delta in InTable p.i p.j p.jp1 × InTable p.ip1 p.j p.jp1
  unfolding place_of
  place =
      let i = clamped_within _ row_count (lit≤ tt) in
      let j = clamped_within _ column_count (lit≤ tt) in
      let ip1 = next_within _ row_count i.0 i.1 in
      let jp1 = next_within _ column_count j.0 j.1 in (
        record { first = i.0; last = i.1; column = j.0; most = j.1; next = jp1.0; end = jp1.1 },
        record { first = ip1.0; last = ip1.1; column = j.0; most = j.1; next = jp1.0; end = jp1.1 },
      )

  pub low_in : InTable (place_of fmc delta).i (place_of fmc delta).j (place_of fmc delta).jp1
  low_in = place.0

  pub high_in : InTable (place_of fmc delta).ip1 (place_of fmc delta).j (place_of fmc delta).jp1
  high_in = place.1
