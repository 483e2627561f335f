pub mod Characters
pub mod Grids
pub mod Shown
pub mod Additive
pub mod Pools
pub mod Worked
