pub mod Keeping
pub mod KeptLines
pub mod Tables
pub mod Peeks
pub mod PlainText
