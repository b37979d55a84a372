pub mod Field
pub mod Placed
pub mod Hundredths
