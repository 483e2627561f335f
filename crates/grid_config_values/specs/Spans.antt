pub mod Rectangles
pub mod Spans
pub mod Search
pub mod Clear
pub mod Owners
