pub mod Line
pub mod TenFields
