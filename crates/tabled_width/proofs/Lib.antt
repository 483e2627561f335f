pub mod Measuring
pub mod Percents
pub mod Stepping
pub mod Tabling
pub mod Sparing
pub mod TablesLemmas
