pub mod Widths
pub mod Rooms
pub mod Steps
pub mod Tables
