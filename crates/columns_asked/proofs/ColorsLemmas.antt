pub mod Tables
pub mod Stripped
