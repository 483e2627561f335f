pub mod Resizing
pub mod Resized
