-- Why the iterators of this crate give the rows that they have left.
pub mod Adapters
pub mod Buffering
pub mod Empty
pub mod EvenRows
pub mod Truncating
