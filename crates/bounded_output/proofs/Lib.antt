mod Fills
pub mod Helds
