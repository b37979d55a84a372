pub mod Single
pub mod Every
pub mod Answer
