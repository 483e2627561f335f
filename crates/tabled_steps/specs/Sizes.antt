-- The sizes of a table by its look: those that it keeps, and else the least that hold its texts.
use Rattle.std.specs.Prelude.{ℕ, ◌+◌, Bool, List, Option, None, Some, Result, Ok, length}
use Rattle.grid_config_values.specs.Glyphs.{boundary_kind, has_column_boundary, has_row_boundary}
use Rattle.grid_config_values.specs.Order.{same_place}
use Rattle.grid_config_values.specs.declared.fault.Fault.{Fault}
use Rattle.grid_config_values.specs.declared.position.Position.{Position}
use Rattle.grid_config_values.specs.Spans.Owners.{owner}
use Rattle.grid_config_values.specs.declared.spans.extent.Extent.{Extent}
use Rattle.grid_config.specs.Looks.{Look}
use Rattle.grid_records_estimate.specs.Estimates.{TrackNeeds, track_sizes}
use Rattle.grid_records_estimate.specs.Sizing.{position_at}
use Rattle.grid_records_traits.specs.TextLines.{text_height, text_width}
use Rattle.grid_records_traits.specs.Rows.{evened, text_at}
use Rattle.tabled_steps.specs.Outcomes.{all_sized}

-- ---- estimates

-- the cell of this position is visible: no span covers it
abbrev pub is_visible_in : (Position → Extent) → Position → Bool
is_visible_in extent place = same_place (owner extent place) place

-- the table by its columns, which the rows cross; and by its rows, which the columns cross
abbrev pub column_needs_by_look : Look → ℕ → List (List (List ℕ)) → TrackNeeds
column_needs_by_look look columns rows = record {
  tracks = columns;
  cross_tracks = length rows;
  is_visible = λ column row. is_visible_in look.extent (position_at row column);
  span = λ column row. (look.extent (position_at row column)).columns;
  need = λ column row. let padding = look.padding (position_at row column) in text_width (text_at rows (position_at row column)) + padding.left.size + padding.right.size;
  has_boundary = λ j. has_column_boundary look.borders (boundary_kind j columns);
}

abbrev pub row_needs_by_look : Look → ℕ → List (List (List ℕ)) → TrackNeeds
row_needs_by_look look columns rows = record {
  tracks = length rows;
  cross_tracks = columns;
  is_visible = λ row column. is_visible_in look.extent (position_at row column);
  span = λ row column. (look.extent (position_at row column)).rows;
  need = λ row column. let padding = look.padding (position_at row column) in text_height (text_at rows (position_at row column)) + padding.top.size + padding.bottom.size;
  has_boundary = λ i. has_row_boundary look.borders (boundary_kind i (length rows));
}

-- the least widths and heights that hold the cells of `columns` columns
unfoldable pub natural_widths : Look → ℕ → List (List (List ℕ)) → List ℕ
natural_widths look columns rows = track_sizes (column_needs_by_look look columns (evened columns rows))

unfoldable pub natural_heights : Look → ℕ → List (List (List ℕ)) → List ℕ
natural_heights look columns rows = track_sizes (row_needs_by_look look columns (evened columns rows))

-- ---- kept or estimated

abbrev pub widths_or : Option (List ℕ) → Look → ℕ → List (List (List ℕ)) → Result (List ℕ) Fault
widths_or (Some widths) look columns rows = Ok widths
widths_or None look columns rows = all_sized (natural_widths look columns rows)

abbrev pub heights_or : Option (List ℕ) → Look → ℕ → List (List (List ℕ)) → Result (List ℕ) Fault
heights_or (Some heights) look columns rows = Ok heights
heights_or None look columns rows = all_sized (natural_heights look columns rows)
