pub mod Legs
pub mod Rhombic
