mod PrintedGlyphs
pub mod KeptLines
pub mod PlainLines
mod Spaces
pub mod WrittenTexts
pub mod EmptyRows
pub mod FlatParts
mod BlockKinds
pub mod LaidRows
