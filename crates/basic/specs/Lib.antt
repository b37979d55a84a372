pub mod Basic
pub mod WholePart
