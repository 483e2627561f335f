pub mod Multiline
pub mod Takers
