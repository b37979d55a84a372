pub mod Settled
pub mod Series
pub mod Rational
pub mod Cisi
pub mod Pair
pub mod Cin
