pub mod Giving
pub mod Sources
pub mod Rows
pub mod Cells
pub mod SingleLines
pub mod SingleLineTexts
pub mod Laws
pub use Rattle.grid_records_measure.specs.TextLines
