pub mod Measuring
pub mod Lining
pub mod Keeping
pub mod Fronts
