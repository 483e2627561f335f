pub mod Between
pub mod Cells
mod FirstColumns
mod LeastRooms
pub mod Sums
pub mod NumbersLemmas
pub mod MarkdownLemmas
pub mod FittingLemmas
mod Kept
