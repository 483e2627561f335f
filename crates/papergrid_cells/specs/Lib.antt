pub mod Lines
pub mod Shown
pub mod Painting
pub mod Spaces
pub mod BlockLines
pub mod Boundaries
pub mod Flat
