pub mod Ends
pub mod Marks
pub mod Pieces
pub mod Records
pub mod Steps
pub mod Walks
