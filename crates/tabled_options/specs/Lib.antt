pub mod Styles
pub mod Options
pub mod Formatting
pub mod Spanning
pub mod Multiline
