-- The efficiencies in a filled table, over any antenna. Assumes nothing.
use mathlib.Core.Path.{◌≡◌, refl, ◌∙◌}
use mathlib.Core.List.{List}
use Prim.Native.Nat.{ℕ, zero, suc, ◌≤◌}
use native.Mathlib.Omega.{arith}
use lib.Seq.{get_or-set_same, get_or-set_other}
use lib.Ieee.{Float}
use Rattle.single.specs.Single.{num}
use Rattle.table.specs.Table.{gain_at, efficiency_at}
use Rattle.independence.specs.Antenna.{Antenna}
use Rattle.independence.specs.Laws.{Laws}
use Rattle.independence.specs.Filling.{call_at, gains_in, row_in}
use Rattle.independence.specs.Demand3.{cell}
use Rattle.independence.proofs.Rows.{gains_length, Filled, rows_fill}

module _ (A : Antenna) (L : Laws A) where
  -- the gains of a row leave all efficiencies
  gains_keep : (c : A.Card) (m : ℕ) (h : Float) (n m' : ℕ) (t : List Float) → m ≤ 30 → n ≤ 91
      → cell (gains_in A c m h n t) (efficiency_at m') ≡ cell t (efficiency_at m')
  unfolding gains_in
  gains_keep c m h zero m' t top k = refl
  gains_keep c m h (suc n) m' t top k =
      get_or-set_other (gains_in A c m h n t) (gain_at m n) (efficiency_at m') (call_at A c m h n).gain (num 0 1) (omega arith) ∙ gains_keep c m h n m' t top (omega arith)

  pub rows_efficiency : (c : A.Card) → Filled A L c efficiency_at (λ m h. (call_at A c m h 90).efficiency)
  unfolding row_in
  rows_efficiency c =
      rows_fill A L c efficiency_at (λ m h. (call_at A c m h 90).efficiency)
      (λ m h t low high long. get_or-set_same (gains_in A c m h 91 t) (efficiency_at m) (call_at A c m h 90).efficiency (num 0 1) (omega (arith, gains_length A L c m h 91 t)))
      (λ m h m' t low high low' high' ne.
      get_or-set_other (gains_in A c m h 91 t) (efficiency_at m) (efficiency_at m') (call_at A c m h 90).efficiency (num 0 1) (omega arith) ∙ gains_keep c m h 91 m' t high (omega arith))
