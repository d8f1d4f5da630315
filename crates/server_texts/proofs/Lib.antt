pub mod Cells
pub mod Writing
