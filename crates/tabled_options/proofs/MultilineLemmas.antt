pub mod Equality
pub mod LaidOut
