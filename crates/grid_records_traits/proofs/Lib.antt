pub mod EvenedRows
pub mod LineAt
pub mod Loops
pub mod Starts
pub mod TextAnswers
