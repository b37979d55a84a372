-- The rows that a card's lookup reads are the table's, and its first and last MHz are small. Assumes nothing.
use Prim.Native.Nat.{ℕ, ◌≤◌}
use mathlib.Core.Path.{◌≡◌, sym, subst, ◌∙◌}
use native.Mathlib.Omega.{arith}
use lib.Dec.{T}
use lib.IntN.{ℤ, pos, nat_abs}
use lib.Signed.{non_neg}
use lib.Ieee.{Float}
use mir.Syntax.{w64}
use mir.Val.{Fits}
use Rattle.table.proofs.Range.{Range}
use Rattle.antenna.specs.Places.{place_of}
use Rattle.antenna.specs.InTable.{InTable}
use Rattle.antenna.proofs.Bounds.{low_in}

-- an end of the range as the machine casts it
pub end_fits : (read end : ℤ) → read ≡ end → end ≡ pos (nat_abs end) → nat_abs end ≤ 30
    → T (non_neg read) × Fits w64 (nat_abs read)
end_fits read end p e l =
    let f : T (non_neg (pos (nat_abs end))) × Fits w64 (nat_abs end) = (tt, omega arith) in
    subst (λ (z : ℤ). T (non_neg z) × Fits w64 (nat_abs z)) (sym (p ∙ e)) f

-- the first and the last row, at the columns of any place
pub ends_in : (first last : ℤ) (fmc delta : Float) → Range first last
    → let p = place_of fmc delta in InTable (nat_abs first) p.j p.jp1 × InTable (nat_abs last) p.j p.jp1
ends_in first last fmc delta r =
    let columns = low_in fmc delta in
    (row (nat_abs first) r.low (omega (arith, r.order, r.high)) columns, row (nat_abs last) (omega (arith, r.low, r.order)) r.high columns)
  where
    row : (n : ℕ) {m j jp1 : ℕ} → 1 ≤ n → n ≤ 30 → InTable m j jp1 → InTable n j jp1
    row n a b i = record { first = a; last = b; column = i.column; most = i.most; next = i.next; end = i.end }
