pub mod Columns
pub mod Lists
pub mod Moving
pub mod Steps
pub mod Passes
