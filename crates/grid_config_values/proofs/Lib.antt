pub mod Settings
mod Numbers
mod Kept
mod Together
mod NewNumbers
pub mod Rectangles
pub mod Boundaries
pub mod Equality
pub mod SpansLemmas
