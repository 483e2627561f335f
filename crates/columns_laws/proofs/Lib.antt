pub mod BoundsLemmas
pub mod PlainLemmas
pub mod SequencesLemmas
pub mod LibraryLemmas
