pub mod IterLemmas
