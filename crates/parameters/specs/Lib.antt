pub mod Params
pub mod Kind
pub mod Model
