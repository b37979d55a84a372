pub mod Answer
pub mod Entries
pub mod Gain
