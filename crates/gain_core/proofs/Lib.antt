pub mod Unsettled
pub mod Laws
pub mod GroundZenith
