pub mod StyledText
pub mod Blocks
pub mod Characters
pub mod Cutting
pub mod Last
