pub mod Options
pub mod Columns
pub mod Basinmug
pub mod Ending
