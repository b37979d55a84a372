-- What the calls that read in pieces give: the forms of their contracts. Definitions only.
use Rattle.std.specs.Prelude.{ℕ, ◌+◌, ◌-◌, ◌≤◌, ◌≡◌, cond, List, Float, length, drop}
use Rattle.deck.specs.Run.{deck_of}
use Rattle.listing.specs.declared.session.Session as S
use Rattle.listing.specs.declared.session.Stepped as D
use Rattle.listing.specs.Appended.{overwritten}
use Rattle.listing.specs.Session.{state_in, step_of, finish_text, finish_table, is_ready, Step}

-- the step of a call on these buffers
abbrev pub step_in : S.Session → List ℕ → List ℕ → List Float → List ℕ → ℕ → Step
step_in s line piece table out at = step_of (is_ready line table out at) (state_in s line table) piece

-- how many bytes are held then: a step that isn't ready leaves their number as it was handed in
abbrev pub held_after : S.Session → List ℕ → List ℕ → List Float → List ℕ → ℕ → ℕ
held_after s line piece table out at = cond (is_ready line table out at) (length (step_in s line piece table out at).state.held) s.held

-- the whole answer
abbrev pub stepped_of : S.Session → List ℕ → List ℕ → List Float → List ℕ → ℕ → D.Stepped
stepped_of s line piece table out at =
    let step = step_in s line piece table out at in
    record {
      session = record { deck = deck_of step.state.deck; listed = step.state.listed; held = held_after s line piece table out at };
      used = length piece - length step.rest;
      at = at + length step.text;
    }

-- The buffer `line`, the table and `out` became line', table' and out': the text stands in `out` from `at` on, and nothing else in it moved
pub record StepDone (s : S.Session) (line piece : List ℕ) (table : List Float) (out : List ℕ) (at : ℕ)
    (line' : List ℕ) (table' : List Float) (out' : List ℕ) (r : D.Stepped) : Type 0 where
  pub answer : r ≡ stepped_of s line piece table out at
  pub state : state_in r.session line' table' ≡ (step_in s line piece table out at).state
  pub held : r.session.held ≡ held_after s line piece table out at
  pub buffer : line' ≡ overwritten line 0 (step_in s line piece table out at).buffer
  pub rest : drop r.used piece ≡ (step_in s line piece table out at).rest
  pub within : r.used ≤ length piece
  pub text : out' ≡ overwritten out at (step_in s line piece table out at).text
  pub end : r.at ≡ at + length (step_in s line piece table out at).text
  pub fits : at ≤ length out → r.at ≤ length out

-- the text of the last call on these buffers
abbrev pub text_at_end : S.Session → List ℕ → List Float → List ℕ → ℕ → List ℕ
text_at_end s line table out at = finish_text (is_ready line table out at) (state_in s line table)

pub record FinishDone (s : S.Session) (line : List ℕ) (table : List Float) (out : List ℕ) (at : ℕ) (table' : List Float) (out' : List ℕ) (r : ℕ) : Type 0 where
  pub table_left : table' ≡ finish_table (is_ready line table out at) (state_in s line table)
  pub text : out' ≡ overwritten out at (text_at_end s line table out at)
  pub end : r ≡ at + length (text_at_end s line table out at)
  pub fits : at ≤ length out → r ≤ length out
