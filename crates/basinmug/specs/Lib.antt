pub mod Encodings
pub mod Faults
pub mod Inputs
pub mod Kept
pub mod Widths
