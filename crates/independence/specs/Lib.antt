pub mod Antenna
pub mod Laws
pub mod Filling
pub mod Deck
pub mod Demand3
pub mod EntryContracts
