pub mod Content
pub mod Drawing
pub mod Padded
pub mod Tables
