mod Chosen
mod GivenValues
pub mod OfKept
mod OfColumns
mod OfRecords
mod OfRuns
pub mod PictureLemmas
