pub mod Outcomes
pub use Rattle.tabled_size.specs.Dimension.Stored
pub mod Looks
pub mod States
pub mod Changes
pub mod Sizes
pub mod Worked
