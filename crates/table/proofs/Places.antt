-- Document 01 section 7: the 2,730 gains and 30 efficiencies stand at the places 0 to 2,759, each at one and none left over. Assumes nothing.
use mathlib.Core.Path.{◌≡◌, refl, ap, ap₂}
use mathlib.Core.Bool.{Bool, true, false}
use Prim.Native.Nat.{ℕ, suc, ◌-◌, ◌/◌, ◌%◌, ◌<◌, ◌≤◌}
use native.Mathlib.Omega.{arith}
use lib.Dec.{ltb}
use borrow.Author.Tests.{ltb-true, ltb-false}
use Rattle.table.specs.Table.{row_count, column_count, gain_count, table_length, gain_at, efficiency_at}

-- the gain at m MHz and d degrees, or the efficiency at m MHz
pub data Number : Type 0 where
  gain : ℕ → ℕ → Number
  efficiency : ℕ → Number

-- 30 rows of 91 gains, 30 efficiencies
abbrev pub InTable : Number → Type 0
InTable (gain m d) = (1 ≤ m) × (m ≤ row_count) × (d < column_count)
InTable (efficiency m) = (1 ≤ m) × (m ≤ row_count)

abbrev pub place_of : Number → ℕ
place_of (gain m d) = gain_at m d
place_of (efficiency m) = efficiency_at m

pub place_below : (x : Number) → InTable x → place_of x < table_length
place_below (gain m d) (l, h, k) = omega arith
place_below (efficiency m) (l, h) = omega arith

pub place_once : (x y : Number) → InTable x → InTable y → place_of x ≡ place_of y → x ≡ y
place_once (gain m d) (gain n e) (l, h, k) (l', h', k') p = let row : m ≡ n = omega arith in let column : d ≡ e = omega arith in ap₂ gain row column
place_once (gain m d) (efficiency n) (l, h, k) (l', h') p = let z : ⊥ = omega arith in absurd z
place_once (efficiency m) (gain n e) (l, h) (l', h', k') p = let z : ⊥ = omega arith in absurd z
place_once (efficiency m) (efficiency n) (l, h) (l', h') p = let row : m ≡ n = omega arith in ap efficiency row

pub place_used : (i : ℕ) → i < table_length → (x : Number) × InTable x × (place_of x ≡ i)
place_used i k = by (ltb i gain_count) refl
  where
    by : (b : Bool) → ltb i gain_count ≡ b → (x : Number) × InTable x × (place_of x ≡ i)
    by true e =
        let before : i < gain_count = ltb-true i gain_count e in
        (gain (suc (i / column_count)) (i % column_count), (omega arith, omega arith, omega arith), omega arith)
    by false e = let after : gain_count ≤ i = ltb-false i gain_count e in (efficiency (suc (i - gain_count)), (omega arith, omega arith), omega arith)
