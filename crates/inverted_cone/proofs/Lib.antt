pub mod ConeTable
pub mod None
