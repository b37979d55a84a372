pub mod Logarithm
