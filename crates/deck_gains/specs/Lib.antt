pub mod CellCalls
