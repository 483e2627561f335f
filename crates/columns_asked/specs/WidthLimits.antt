-- How wide a table may be, and what is done to its cells where it would be wider.
-- a width that the table must not pass, if any, and how its cells get narrower
pub use Rattle.columns_asked.specs.declared.asked.WidthLimit.{WidthLimit}
-- what is done to a cell
pub use Rattle.tabled_size_wrap.specs.Cells.Resizing.{Wrap, Cut, Keep, Resize}
-- the text that a cell becomes, with what its lines measure
pub use Rattle.tabled_size_wrap.specs.declared.measured.MeasuredText.{MeasuredText}
