pub mod OptionsLemmas
pub mod ColumnsLemmas
pub mod BasinmugLemmas
