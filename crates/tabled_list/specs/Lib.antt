pub mod Amounts
pub mod Looks
pub mod Priorities
pub mod Settings
pub mod Lists
pub mod Stripping
