pub mod Totalling
pub mod Rooming
pub mod Drawing
pub mod Tabling
