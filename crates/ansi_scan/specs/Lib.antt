pub mod Sequences
pub mod Places
pub mod Pieces
pub mod Joining
pub mod Reads
pub mod Scan
pub use Rattle.ansi_scan.specs.Styles.Attributes
pub use Rattle.ansi_scan.specs.Styles.Rendition
pub use Rattle.ansi_scan.specs.Styles.Sequences as StartsAndEnds
pub mod Styles
