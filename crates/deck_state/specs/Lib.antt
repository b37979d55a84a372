pub mod DeckState
