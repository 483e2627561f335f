-- The table of an input is that of its parts in the requested width: its width, and that each line of a cell is seen.
use Rattle.std.proofs.Common.{◌≡◌, ℕ, ◌<◌, ◌≤◌, max, List, None, Some, length}
use Rattle.columns_table.proofs.AskedWidths.{width-fitting, width-narrowed, width-unasked}
use Rattle.columns_table.proofs.SeenLines.{asked-lines, asked-shown}
use Rattle.papergrid_picture.specs.Blocks.{text_line}
use Rattle.papergrid_picture.specs.Frame.{block_width, column_count, row_count, track_at}
use Rattle.papergrid_picture.specs.Picture.{at, block_parts, laid}
use Rattle.papergrid_picture.specs.Tiling.{IsLineOf, ShowsAllLines}
use Rattle.columns_run.specs.DrawnTables.{grid_of, resized_texts}
use Rattle.columns_run.specs.Rows.{cell_parts}
use Rattle.columns_run.specs.Wanted.{Wanted}
use Rattle.columns_run.specs.Widths.{narrowest_columns, natural_columns, taken_columns}

module _ (wanted : Wanted) (input : List ℕ) where
  pub narrowed-columns : (width : ℕ) → wanted.limit.width ≡ Some width → width < natural_columns wanted input → taken_columns wanted input ≡ max width (narrowest_columns wanted input)
  unfolding grid_of resized_texts
  narrowed-columns = width-narrowed wanted.style wanted.limit (cell_parts input)

  pub fitting-columns : (width : ℕ) → wanted.limit.width ≡ Some width → natural_columns wanted input ≤ width → taken_columns wanted input ≡ natural_columns wanted input
  unfolding grid_of resized_texts
  fitting-columns = width-fitting wanted.style wanted.limit (cell_parts input)

  pub unasked-columns : wanted.limit.width ≡ None → taken_columns wanted input ≡ natural_columns wanted input
  unfolding grid_of resized_texts
  unasked-columns = width-unasked wanted.style wanted.limit (cell_parts input)

  pub lines-seen : ShowsAllLines (grid_of wanted input)
  unfolding grid_of resized_texts
  lines-seen = asked-lines wanted.style wanted.limit (cell_parts input)

  pub line-seen : (i j k : ℕ) → i < row_count (grid_of wanted input).frame → j < column_count (grid_of wanted input).frame → k < length ((grid_of wanted input).measures (at i j))
      → (y : ℕ) × IsLineOf (grid_of wanted input) (at i j) y
      × (block_parts (grid_of wanted input) (at i j) y
      ≡ laid (track_at (grid_of wanted input).frame.columns j) (text_line (grid_of wanted input) (at i j) (block_width (grid_of wanted input).frame (at i j)) k))
  unfolding grid_of resized_texts
  line-seen = asked-shown wanted.style wanted.limit (cell_parts input)
