pub mod Steps
pub mod Round
pub mod Sizes
pub mod Parts
pub mod Malformed
pub mod Examples
pub mod ReadBack
