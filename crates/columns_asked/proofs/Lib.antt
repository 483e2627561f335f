pub mod Sizes
pub mod Tables
pub mod Characters
pub mod Stripped
pub mod TextsWithoutEscape
pub mod Shrunk
pub mod Narrows
mod Resizes
pub mod ColorsLemmas
