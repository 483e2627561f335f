pub mod FirstLines
pub mod Renditions
pub mod Told
pub mod Walks
