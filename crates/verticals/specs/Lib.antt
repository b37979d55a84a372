pub mod Monopole
