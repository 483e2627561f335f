-- Why the laws hold: of sums, of runs, and of each form of shrunk and grown lists.
pub use Rattle.tabled_size_priority.specs.LevelRules.Lists
pub mod Runs
pub mod Growths
pub mod Places
pub mod Naming
pub mod Forms
pub mod Order
pub mod Levels
pub mod Raising
pub mod Alone
pub mod Turning
pub mod Turns
pub mod Moves
pub mod Held
