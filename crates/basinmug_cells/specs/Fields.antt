-- The texts of cells as they are looked at.
use Rattle.std.specs.Prelude.{ℕ, List}
use Rattle.basinmug_cells.specs.OwnTexts.{own_text}
use Rattle.basinmug_cells.specs.declared.field.Field.{Field}
use Rattle.basinmug_cells.specs.declared.field.Field.TheVariants.{Part, Own}

-- the part of a text that a cell is, or its own text
abbrev pub field_text : Field → List ℕ
field_text (Part part) = part.text.now
field_text (Own own) = own_text own.now
