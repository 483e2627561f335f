-- Why grids print their text.
pub mod Flat
pub use Rattle.papergrid_fits.proofs.Estimated
pub use Rattle.papergrid_fits.proofs.First
pub use Rattle.papergrid_fits.proofs.Rooms
pub use Rattle.papergrid_fits.proofs.SameTexts
pub use Rattle.papergrid_fits.proofs.Listed
