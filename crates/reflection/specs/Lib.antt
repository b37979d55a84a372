pub mod Soil
pub mod Ground
