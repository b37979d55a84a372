pub mod Trigonometric
pub mod Turns
