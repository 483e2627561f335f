pub mod Filled
pub mod Held
