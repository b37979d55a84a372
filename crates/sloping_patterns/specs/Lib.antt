pub mod Direction
pub mod Vee
pub mod Rhombic
