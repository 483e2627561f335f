pub mod ColumnColors
pub mod Fault
pub mod Settings
