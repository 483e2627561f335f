pub mod Bytes
pub mod Commands
pub mod NotNamed
pub mod ClosedColors
