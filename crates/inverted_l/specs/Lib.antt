pub mod InvertedL
