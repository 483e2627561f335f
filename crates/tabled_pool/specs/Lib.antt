pub mod Pools
pub mod Boxes
