pub mod Columns
pub mod Records
pub mod Writing
