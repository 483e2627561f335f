pub mod Glyphs
pub mod Lines
