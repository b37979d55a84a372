pub mod Basic
pub mod Trigonometric
pub mod Arctangent
pub mod Logarithm
pub mod Constants
