pub mod Field
pub mod Exact
pub mod Answers
pub mod Printed
pub mod Examples
