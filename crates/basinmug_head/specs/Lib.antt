pub mod Blocks
pub mod Fronts
pub mod Heads
pub mod Walking
