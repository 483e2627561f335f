pub mod ClosingLooks
pub mod ShownTables
pub mod OtherTables
pub mod PlainEnds
pub mod CountedTables
