pub mod ShownLemmas
pub mod AdditiveLemmas
pub mod ControlsLemmas
pub mod SequencesLemmas
pub mod WidthLemmas
mod WorkedLemmas
