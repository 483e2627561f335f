pub mod OneMore
mod ColumnsMet
