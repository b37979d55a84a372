pub mod Digits
pub mod Integer
pub mod Decimal
pub mod Malformed
pub mod Nearest
