pub mod ClosingOptions
pub mod EndedLines
pub mod Records
pub mod RunsShown
