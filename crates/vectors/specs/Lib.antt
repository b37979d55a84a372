pub mod Counting
pub mod Line
