pub mod Counts
pub mod EvenLines
