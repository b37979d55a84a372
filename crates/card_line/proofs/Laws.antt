-- A line of another length is malformed, whatever its bytes. Assumes nothing.
use mathlib.Core.Path.{◌≡◌, refl}
use mathlib.Core.List.{List}
use Prim.Native.Nat.{ℕ}
use borrow.Author.Tests.{ne_eqb}
use lib.ListN.{length}
use Rattle.std.proofs.Common.{None}
use Rattle.card_line.specs.Line.{is_well_formed, line_of}

pub wrong_length : (l : List ℕ) → (length l ≡ 119 → ⊥) → line_of l ≡ None
unfolding line_of is_well_formed
wrong_length l n = rw (ne_eqb (length l) 119 n) refl
