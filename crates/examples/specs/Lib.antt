pub mod Commas
pub mod Headed
