pub mod Colors
pub mod Closing
pub mod Clearing
pub mod FirstColor
pub mod Fault
pub mod Equality
