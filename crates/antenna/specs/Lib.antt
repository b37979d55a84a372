pub mod Places
pub mod InTable
pub mod Rows
pub mod FilledRows
pub mod Lookups
pub mod ByteTables
