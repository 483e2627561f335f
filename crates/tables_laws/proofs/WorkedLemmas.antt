pub mod Steps
pub mod Cells
pub mod Looks
