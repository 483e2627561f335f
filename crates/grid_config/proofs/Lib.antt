pub mod Equality
pub mod Looks
mod Copies
pub mod ColorsLemmas
