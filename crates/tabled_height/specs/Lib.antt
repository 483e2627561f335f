pub mod Heights
pub mod Lines
pub mod Options
pub mod Steps
pub mod Worked
