pub mod CellStripping
pub mod Bridges
pub mod Characters
pub mod RunsShown
pub mod Resized
pub mod TextsWithoutEscape
pub mod CutLines
pub mod WrappedLines
