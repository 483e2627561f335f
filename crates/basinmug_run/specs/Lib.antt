pub mod Requests
pub mod Kept
pub mod Columns
pub mod Faults
pub mod Runs
pub mod Messages
pub mod Picture
