pub mod Spanning
pub mod MultilineLemmas
