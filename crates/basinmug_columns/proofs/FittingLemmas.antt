pub mod Fits
pub mod Lined
pub mod Plain
