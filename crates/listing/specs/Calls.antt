-- Calls in turn over an input that comes in pieces of any size, each as its contract says, and the text that they write. Definitions only.
use Rattle.std.specs.Prelude.{ℕ, ◌-◌, ◌≤◌, ◌≡◌, true, List, [], ◌++◌, Float, length, take, drop}
use Rattle.listing.specs.declared.session.Session as S
use Rattle.listing.specs.declared.session.Stepped as D
use Rattle.listing.specs.Session.{is_ready}
use Rattle.listing.specs.Steps.{StepDone, FinishDone}

-- the bytes of a buffer from a to b
abbrev pub part : ℕ → ℕ → List ℕ → List ℕ
part a b out = take (b - a) (drop a out)

-- With a session, its buffer and table, and these bytes still to be read, the calls write this text: a step on a piece, then the
-- calls on what it left of the piece and on what follows it; and at the end of the input the last call, on buffers that are ready.
-- Each call may write into a buffer of its own
pub data CallsDone : S.Session → List ℕ → List Float → List ℕ → List ℕ → Type 0 where
  finished : (s : S.Session) (line : List ℕ) (table table' : List Float) (out out' : List ℕ) (at r : ℕ)
      → is_ready line table out at ≡ true → FinishDone s line table out at table' out' r
      → CallsDone s line table [] (part at r out')
  stepped : (s : S.Session) (line line' piece rest : List ℕ) (table table' : List Float) (out out' : List ℕ) (at : ℕ) (r : D.Stepped)
      (text : List ℕ) → at ≤ length out → StepDone s line piece table out at line' table' out' r
      → CallsDone r.session line' table' (drop r.used piece ++ rest) text
      → CallsDone s line table (piece ++ rest) (part at r.at out' ++ text)
