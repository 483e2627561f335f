pub mod Weaker
pub mod Adjusting
pub mod Choosing
pub mod Running
pub mod Naming
mod CellSetters
mod Coloring
pub mod StrippingLemmas
