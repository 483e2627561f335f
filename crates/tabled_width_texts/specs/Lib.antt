pub mod Filling
pub mod WrappedOrCut
pub mod Cutting
pub mod Keeping
pub mod Suffixes
pub mod Cuts
