pub mod Answers
pub mod Faults
pub mod Kept
pub mod Requests
pub mod Texts
pub mod Worked
