pub mod Equality
pub mod Measures
pub mod Pictures
pub mod Shapes
