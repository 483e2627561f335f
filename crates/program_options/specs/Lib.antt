pub mod Columns
pub mod ColorList
