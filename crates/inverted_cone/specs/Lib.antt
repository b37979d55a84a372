pub mod InvertedCone
