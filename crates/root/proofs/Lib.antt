pub mod Whole
pub mod Rounded
