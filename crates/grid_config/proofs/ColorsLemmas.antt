pub mod Clearing
pub mod ClosedColors
pub mod Equality
pub mod Sequences
pub mod Styles
