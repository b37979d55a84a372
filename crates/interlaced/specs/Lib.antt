pub mod Interlaced
