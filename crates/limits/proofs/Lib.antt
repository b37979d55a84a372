pub mod Finite
pub mod Outside
pub mod None
pub mod Within
