-- Why iterators give the rows that they have left.
pub mod Given
pub mod Giving
pub mod Leaving
pub mod Sources
