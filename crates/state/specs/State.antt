-- Document 01 section 6: the state that a gain call is lent, `IoncapState` of the Rust. Definitions only.
use Rattle.std.specs.Prelude.{Float}
use Rattle.state.specs.declared.IoncapState.{IoncapState}

-- it holds the carried height
abbrev pub state_at : Float → IoncapState
state_at height = record { x = height }
