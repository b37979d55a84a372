pub mod Table
pub mod Range
