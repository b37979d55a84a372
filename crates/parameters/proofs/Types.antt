-- A match on the type compares the pattern of its 32 bits. Assumes nothing.
use Prim.Native.Nat.{ℕ}
use mathlib.Core.Path.{◌≡◌, refl, sym, ap, ◌∙◌}
use mathlib.Core.Bool.{false}
use borrow.Author.Tests.{ne_eqb}
use lib.IntN.{ℤ, pos, negsuc}
use mir.Syntax.{w32}
use mir.Val.{SFits, of_z, to_z}
use mir.ValLaws.{to_z-of_z}
use Rattle.parameters.specs.Params.{is_type}

pub no_type : (k : ℤ) (n : ℕ) → (of_z w32 k ≡ n → ⊥) → is_type k n ≡ false
unfolding is_type
no_type (pos k) n h = ne_eqb k n h
no_type (negsuc k) n h = refl

pub is_type_lem : (k : ℤ) {n : ℕ} → SFits w32 k → of_z w32 k ≡ n → k ≡ to_z w32 n
is_type_lem k f e = sym (to_z-of_z w32 k f) ∙ ap (to_z w32) e
