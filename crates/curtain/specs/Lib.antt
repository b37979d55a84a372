pub mod Floor
pub mod Card
pub mod Row
pub mod Bays
pub mod Elements
pub mod Pattern
pub mod Gain
pub mod Cell
