pub mod Order
pub mod Extents
pub mod Visible
pub mod Good
pub mod Parting
pub mod Owners
pub mod Lasts
