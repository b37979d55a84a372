-- Document 01 section 8: the gain call of a cell. Definitions only.
use Rattle.std.specs.Prelude.{ℕ, Float, Option}
use Rattle.single.specs.Single.{num, whole}
use Rattle.gain_core.specs.Core.{work_of, refused_at}
use Rattle.gain_core.specs.declared.calls.Answer as Gain
use Rattle.integrals.specs.Settled.{unsettled_number, settled_value}
use Rattle.integrals.specs.declared.settled.Settled.{Settled}
use Rattle.independence.specs.Antenna.{Answer}
use Rattle.cards.specs.declared.card.Card.{Card}
use Rattle.cards.specs.Card.{antenna_for}
use Rattle.deck.specs.Columns.{elevation_at, column_at}

-- 11 arises in the work. It ends the card, which keeps the height that it found, so no height is taken from such a call
abbrev pub answer_of : Option (Settled Gain.Answer) → Answer
answer_of w =
    let a = settled_value (refused_at (num 0 1)) w in
    record { refusal = unsettled_number w; gain = a.gain; efficiency = a.efficiency; height = a.height }

-- the gain call at m MHz and d degrees, with the height h
unfoldable pub call_of : Card → ℕ → ℕ → Float → Answer
call_of c m d h = answer_of (work_of (antenna_for c) (whole m) (elevation_at d) (column_at d) h)
