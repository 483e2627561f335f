pub mod Documents
pub mod Escapes
