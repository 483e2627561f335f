pub mod Names
pub mod Stepping
