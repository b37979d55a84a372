-- When the buffers of a call are ready. Assumes nothing.
use mathlib.Core.Path.{◌≡◌, refl, sym, ◌∙◌}
use mathlib.Core.Bool.{Bool, true, ◌&&◌}
use mathlib.Core.List.{List}
use Prim.Native.Nat.{ℕ, ◌+◌}
use borrow.Author.Tests.{eq-eqb, eqb-true, leb-true, le-leb}
use lib.Dec.{eqb, leb}
use lib.Ieee.{Float}
use lib.ListN.{length}
use Rattle.std.specs.Prelude.{Option, Some, None}
use Rattle.std.specs.Option.{MatchOption, IsSome}
use Rattle.single.proofs.Booleans.{and_left, and_right}
use Rattle.table.specs.Table.{is_table}
use Rattle.listing.specs.Ready.{Ready}
use Rattle.listing.specs.Session.{is_ready}

pub ready : (line : List ℕ) (table : List Float) (out : List ℕ) (at : ℕ) → is_ready line table out at ≡ true → Ready line table out at
unfolding is_ready is_table
ready line table out at e =
    let lengths = eqb (length line) 120 && is_table table in
    let p : lengths ≡ true = and_left lengths (leb (at + 569) (length out)) e in
    record {
      line_length = eqb-true (length line) 120 (and_left (eqb (length line) 120) (is_table table) p);
      table_len = eqb-true (length table) 2760 (and_right (eqb (length line) 120) (is_table table) p);
      room = leb-true (at + 569) (length out) (and_right lengths (leb (at + 569) (length out)) e);
    }

pub ready_from : (line : List ℕ) (table : List Float) (out : List ℕ) (at : ℕ) → Ready line table out at → is_ready line table out at ≡ true
unfolding is_ready is_table
ready_from line table out at r = rw (eq-eqb (length line) 120 r.line_length, eq-eqb (length table) 2760 r.table_len, le-leb (at + 569) (length out) r.room) refl

-- as the code tests it
pub tested : {b : Bool} (line : List ℕ) (table : List Float) (out : List ℕ) (at : ℕ) → b ≡ is_ready line table out at → b ≡ true
    → Ready line table out at
tested line table out at e t = ready line table out at (sym e ∙ t)

pub is_there : {X : Type 0} (o : Option X) (P : Type 0) (Q : X → Type 0) → MatchOption o P Q → (P → ⊥) → IsSome o
is_there (Some x) P Q m none = refl
is_there None P Q m none = absurd (none m)
