pub mod Length
pub mod Signed
