pub mod Compact
pub mod GridParts
pub use Rattle.papergrid_fits.specs.Grids
pub use Rattle.papergrid_fits.specs.Tables
pub use Rattle.papergrid_print.specs.Chosen
pub use Rattle.papergrid_print.specs.declared.choice.LineKind
