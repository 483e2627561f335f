pub mod Escapes
pub mod Expanded
pub mod Heads
pub mod Cutting
pub mod Tables
