pub mod Longest
pub mod Numbers
