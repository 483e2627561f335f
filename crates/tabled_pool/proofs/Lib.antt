mod Equality
pub mod BoxesLemmas
