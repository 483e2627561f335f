pub mod Tables
pub mod Grids
