-- A table's bytes: which are a table, and where its numbers stand. Assumes nothing.
use Prim.Native.Nat.{ℕ, ◌<◌}
use mathlib.Core.Path.{◌≡◌, refl, sym, ◌∙◌}
use mathlib.Core.Bool.{Bool, true, false}
use mathlib.Core.List.{List}
use native.Mathlib.Omega.{arith}
use borrow.Author.Tests.{eq-eqb, eqb-true}
use lib.Dec.{eqb}
use lib.ListN.{length}
use Rattle.encoding.specs.Bytes.{floats_of}
use Rattle.encoding.proofs.Floats.{floats_length}
use Rattle.table.specs.Table.{table_length, is_table}
use Rattle.antenna.specs.ByteTables.{byte_count, table_of}

pub table_of_lem : (bs : List ℕ) → length bs ≡ byte_count → table_of bs ≡ floats_of bs
unfolding table_of
table_of_lem bs h = rw (eq-eqb _ _ h)

pub is_table_lem : (bs : List ℕ) → length bs ≡ byte_count → is_table (table_of bs) ≡ true
unfolding is_table
is_table_lem bs h = rw (table_of_lem bs h) (eq-eqb _ _ (floats_length table_length bs h))

pub is_table_of : (bs : List ℕ) → eqb (length bs) byte_count ≡ is_table (table_of bs)
is_table_of bs = go (eqb (length bs) byte_count) refl
  where
    go : (b : Bool) → eqb (length bs) byte_count ≡ b → eqb (length bs) byte_count ≡ is_table (table_of bs)
    go true e = e ∙ sym (is_table_lem bs (eqb-true _ _ e))
    go false e = e ∙ sym (unfold is_table table_of in rw e)

-- a number that is read has its bytes
pub bytes_long : (bs : List ℕ) (k : ℕ) → k < length (table_of bs) → (length bs ≡ byte_count) × (k < table_length)
bytes_long bs k h = go (eqb (length bs) byte_count) refl
  where
    go : (b : Bool) → eqb (length bs) byte_count ≡ b → (length bs ≡ byte_count) × (k < table_length)
    go true e =
        let long : length bs ≡ byte_count = eqb-true _ _ e in
        (long, let l : k < length (floats_of bs) = rw (table_of_lem bs long) at h in rw (floats_length table_length bs long) at l)
    go false e = absurd (let z : length (table_of bs) ≡ 0 = unfold table_of in rw e in omega arith)
