pub mod CharactersLemmas
pub mod CountsLemmas
pub mod GridsLemmas
pub mod ShownLemmas
pub mod AdditiveLemmas
pub mod PoolsLemmas
pub mod WorkedLemmas
