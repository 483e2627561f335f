pub mod Costs
pub mod Spaces
