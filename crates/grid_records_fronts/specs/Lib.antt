pub mod Emoji
pub mod Fronts
pub mod Bounds
