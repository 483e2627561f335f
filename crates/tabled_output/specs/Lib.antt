pub mod Building
pub mod Counts
pub mod Faults
pub mod Pieces
pub mod Streams
