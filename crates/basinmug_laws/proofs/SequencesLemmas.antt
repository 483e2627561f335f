pub mod Allowed
pub mod Parts
pub mod Styles
pub mod Texts
pub mod Lines
pub mod Colors
pub mod Written
