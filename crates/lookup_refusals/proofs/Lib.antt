pub mod Accepted
pub mod None
