pub mod UnitBounds
pub mod LineBounds
pub mod CellBounds
pub mod TableBounds
