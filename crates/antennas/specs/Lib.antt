pub mod Antenna
