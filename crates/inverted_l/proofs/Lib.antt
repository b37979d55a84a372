pub mod Refusal
pub mod Names
