pub mod Names
pub mod Rooms
pub mod Needs
pub mod Shown
pub mod Rows
pub mod Numbers
pub mod Markdown
pub mod Fitting
