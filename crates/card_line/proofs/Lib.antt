pub mod TenFields
pub mod Integers
pub mod Laws
pub mod Answers
pub mod Examples
