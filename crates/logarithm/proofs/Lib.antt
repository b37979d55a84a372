pub mod Digits
pub mod Split
