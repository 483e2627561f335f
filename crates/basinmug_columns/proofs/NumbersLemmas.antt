pub mod Groups
pub mod Parts
pub mod Scanned
pub mod Digits
pub mod Texts
pub mod Itself
