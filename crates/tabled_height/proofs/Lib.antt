pub mod Counting
pub mod Estimating
pub mod Giving
pub mod Limiting
pub mod Resizing
