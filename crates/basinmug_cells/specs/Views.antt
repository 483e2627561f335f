-- Rows of cells as they are looked at.
use Rattle.std.specs.Prelude.{ℕ, List, map}
use Rattle.basinmug_cells.specs.Ends.{rows_by}
use Rattle.basinmug_cells.specs.OwnTexts.{own_texts}
use Rattle.basinmug_cells.specs.Places.{place_text}
use Rattle.basinmug_cells.specs.declared.row.Row.{Row}
use Rattle.basinmug_cells.specs.declared.rows_view.RowsView.{RowsView}

-- the texts of a row
abbrev pub row_texts : Row → List (List ℕ)
row_texts row = map (place_text row.text.now (own_texts row.own.now)) row.places.now

-- and of rows
abbrev pub view_rows : RowsView → List (List (List ℕ))
view_rows rows = rows_by rows.start rows.ends.now (map (place_text rows.text.now (own_texts rows.own.now)) rows.places.now)
