pub mod Row
pub mod Pattern
