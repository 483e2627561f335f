pub mod WidthLimits
pub mod Shrunk
pub mod DrawnTables
pub mod Worked
pub use Rattle.tabled_size_wrap.specs.Bytes
pub use Rattle.tabled_size_wrap.specs.Cells.Resizing
pub mod Colors
