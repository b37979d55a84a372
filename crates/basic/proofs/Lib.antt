pub mod Sign
pub mod Absolute
pub mod WholePart
pub mod Larger
