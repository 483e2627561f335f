pub mod Bounds
pub mod Plain
pub mod Sequences
pub mod Library
pub mod Refusals
