-- The contracts of a `Gatherer`: what it does to the buffer. Definitions only.
use Rattle.std.specs.Prelude.{ℕ, ◌≤◌, ◌≡◌, List, length, take, drop, Option, Some, None}
use Rattle.std.specs.Option.{is_some}
use Rattle.listing.specs.declared.gathering.Gatherer.{Gatherer}
use Rattle.listing.specs.Sizes.{most_held}
use Rattle.listing.specs.Session.{grown, gathered}

-- how many bytes of the piece are taken: to the end of its first line, or all
abbrev pub used_of : List ℕ → Option ℕ → ℕ
used_of piece (Some end) = end
used_of piece None = length piece

abbrev pub held_of : Gatherer → List ℕ
held_of g = take g.held g.line.now

-- the array has its length, and no more is held: a proof is told nothing of an array behind a field
abbrev pub IsWithin : Gatherer → Type 0
IsWithin g = (length g.line.now ≡ most_held) × (g.held ≤ most_held)

-- g became g' by the byte b
pub record Pushed (g : Gatherer) (b : ℕ) (g' : Gatherer) : Type 0 where
  pub same_buffer : g'.line.ghost_name ≡ g.line.ghost_name
  pub result : held_of g' ≡ grown (held_of g) b
  pub held_within : IsWithin g'
  pub more : g.held ≤ g'.held
  pub kept : drop g'.held g'.line.now ≡ drop g'.held g.line.now

-- g became g' by the piece, whose first line ends at `end`
pub record GatherDone (g : Gatherer) (piece : List ℕ) (g' : Gatherer) (end : Option ℕ) : Type 0 where
  pub same_buffer : g'.line.ghost_name ≡ g.line.ghost_name
  pub result : gathered (held_of g) piece ≡ record { whole = is_some end; held = held_of g'; rest = drop (used_of piece end) piece }
  pub held_within : IsWithin g'
  pub within : used_of piece end ≤ length piece
  pub kept : drop g'.held g'.line.now ≡ drop g'.held g.line.now
