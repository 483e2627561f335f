pub mod Columns
pub mod Lending
pub mod Tables
pub mod Iter
