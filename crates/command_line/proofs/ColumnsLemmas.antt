pub mod Columns
pub mod Passed
pub mod Styles
pub mod Colors
