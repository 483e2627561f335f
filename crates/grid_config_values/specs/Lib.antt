pub mod Fault
pub mod Glyphs
pub mod Order
pub mod Entities
pub mod Numbers
pub mod Rectangles
pub mod Settings
pub mod Spans
