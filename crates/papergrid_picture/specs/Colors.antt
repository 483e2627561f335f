pub mod ClosingColors
pub mod ColoredPicture
pub mod ColoredLines
pub mod Worked
