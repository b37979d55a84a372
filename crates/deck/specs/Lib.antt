pub mod Columns
pub mod Call
pub mod Antenna
pub mod Row
pub mod Run
