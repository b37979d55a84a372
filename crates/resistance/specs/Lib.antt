pub mod Resistance
