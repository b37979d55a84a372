-- The contract of a private function: a line run on the deck, and its text. Definitions only.
use Rattle.std.specs.Prelude.{ℕ, ◌+◌, ◌≤◌, ◌≡◌, List, Float}
use Rattle.listing.specs.declared.session.Session as S
use Rattle.listing.specs.declared.writing.Writer.{Writer}
use Rattle.listing.specs.Written.{Written}
use Rattle.listing.specs.Session.{state_in, line_text, after_line}

-- the line was listed: the table t became t', the writer w became w'
pub record LineListed (s : S.Session) (line : List ℕ) (t t' : List Float) (w w' : Writer) (r : S.Session) : Type 0 where
  pub state : (buffer : List ℕ) → state_in r buffer t' ≡ after_line (state_in s buffer t) line
  pub held : r.held ≡ 0
  pub same_buffer : w'.out.ghost_name ≡ w.out.ghost_name
  pub text : (buffer : List ℕ) → Written w (line_text (state_in s buffer t) line) w'
  pub within : w'.at ≤ w.at + 554
