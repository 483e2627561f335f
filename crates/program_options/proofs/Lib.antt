pub mod ColorListLemmas
