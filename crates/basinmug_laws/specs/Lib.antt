pub mod Shown
pub mod Additive
pub mod Controls
pub mod Widths
pub mod Worked
