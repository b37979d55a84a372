-- Text written by a `Writer`. Definitions only.
use Rattle.std.specs.Prelude.{◌≡◌, List, ℕ, ◌+◌, ◌≤◌, length}
use Rattle.listing.specs.declared.writing.Writer.{Writer}
use Rattle.listing.specs.Appended.{Appended}

-- n more bytes fit
abbrev pub HasRoom : Writer → ℕ → Type 0
HasRoom w n = w.at + n ≤ length w.out.now

-- w became w': the text t was written into the same buffer
pub record Written (w : Writer) (t : List ℕ) (w' : Writer) : Type 0 where
  pub same_buffer : w'.out.ghost_name ≡ w.out.ghost_name
  pub text : Appended w.out.now w.at t w'.out.now w'.at
