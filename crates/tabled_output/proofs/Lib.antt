pub mod WrittenPieces
pub mod Written
