pub mod Numbers
pub mod Scans
pub mod Columns
