pub mod Sizes
pub mod Stored
pub mod Values
pub mod Takers
pub mod Order
pub mod Ties
