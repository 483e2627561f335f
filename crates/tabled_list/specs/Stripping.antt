pub mod Printing
pub mod Totals
pub mod Stripping
