pub mod Height
pub mod CurtainFloor
pub mod Unsettled
