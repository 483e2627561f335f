pub mod Names
pub mod Lists
pub mod Choices
pub mod Delimiters
pub mod Met
