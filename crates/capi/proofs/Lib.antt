pub mod Stores
pub mod Cases
