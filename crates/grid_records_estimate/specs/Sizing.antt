-- What the sizes of a table follow from, besides its texts: some of its settings. And a table by its columns and by its
-- rows.
use Rattle.std.specs.Prelude.{ℕ, ◌+◌, Bool, not, ◌&&◌, List, [], length}
use Rattle.std.specs.List.{list_any}
use Rattle.grid_config.specs.Compact.{Compact}
use Rattle.grid_config.specs.Glyphs.{boundary_kind, has_column_boundary, has_row_boundary}
use Rattle.grid_config.specs.Maps.{value_at}
use Rattle.grid_config.specs.Settings.{Settings}
use Rattle.grid_config.specs.Spans.{extent_at}
use Rattle.grid_config_values.specs.Spans.Search.{holds}
use Rattle.grid_config_values.specs.declared.spans.extent.Extent.{Extent}
use Rattle.grid_config_values.specs.Order.{same_place}
use Rattle.grid_config_values.specs.declared.borders.Borders.{Borders}
use Rattle.grid_config_values.specs.declared.position.Position.{Position}
use Rattle.grid_config_values.specs.declared.sides.Indent.{Indent}
use Rattle.grid_config_values.specs.declared.sides.Sides.{Sides}
use Rattle.grid_records_traits.specs.TextLines.{text_height, text_width}
use Rattle.grid_records_traits.specs.Rows.{text_at}
use Rattle.grid_records_estimate.specs.Estimates.{TrackNeeds}

-- ---- settings

-- the settings that sizes follow from: the part of their look that sizes need, with the spans in their order, which
-- changes no size (`laws::sizes_follow_from_looks`)
pub record TableSizing : Type 0 where
  pub margin : Sides Indent
  pub borders : Borders ℕ
  pub padding : Position → Sides Indent
  pub spans : List (Position × Extent)

abbrev pub sizing_of : Settings → TableSizing
sizing_of settings = record { margin = settings.margin; borders = settings.borders; padding = value_at settings.padding; spans = settings.spans }

-- of a compact table: every cell has the same padding, and none spans several
abbrev pub compact_sizing : Compact → TableSizing
compact_sizing compact = record { margin = compact.margin; borders = compact.borders; padding = λ _. compact.padding; spans = [] }

-- whether the rectangle of no other cell holds the place: `IsVisible`, as a test
abbrev pub is_visible : List (Position × Extent) → Position → Bool
is_visible spans place = not (list_any (λ span. holds span.0 (extent_at spans span.0) place && not (same_place span.0 place)) spans)

-- ---- the table of these texts, row by row, in `columns` columns

abbrev pub position_at : ℕ → ℕ → Position
position_at row column = record { row = row; col = column }

-- the columns that the paddings at the left and right take, and the lines that those at the top and bottom do
abbrev pub around_width : Sides Indent → ℕ
around_width padding = padding.left.size + padding.right.size

abbrev pub around_height : Sides Indent → ℕ
around_height padding = padding.top.size + padding.bottom.size

-- a cell needs its text and the paddings at its left and right
abbrev pub width_need : TableSizing → Position → List ℕ → ℕ
width_need sizing pos text = let padding = sizing.padding pos in text_width text + padding.left.size + padding.right.size

-- its lines and the paddings at its top and bottom
abbrev pub height_need : TableSizing → Position → List ℕ → ℕ
height_need sizing pos text = let padding = sizing.padding pos in text_height text + padding.top.size + padding.bottom.size

-- by its columns, which the rows cross
abbrev pub column_needs : TableSizing → ℕ → List (List (List ℕ)) → TrackNeeds
column_needs sizing columns rows = record {
  tracks = columns;
  cross_tracks = length rows;
  is_visible = λ column row. is_visible sizing.spans (position_at row column);
  span = λ column row. (extent_at sizing.spans (position_at row column)).columns;
  need = λ column row. width_need sizing (position_at row column) (text_at rows (position_at row column));
  has_boundary = λ j. has_column_boundary sizing.borders (boundary_kind j columns);
}

-- by its rows, which the columns cross
abbrev pub row_needs : TableSizing → ℕ → List (List (List ℕ)) → TrackNeeds
row_needs sizing columns rows = record {
  tracks = length rows;
  cross_tracks = columns;
  is_visible = λ row column. is_visible sizing.spans (position_at row column);
  span = λ row column. (extent_at sizing.spans (position_at row column)).rows;
  need = λ row column. height_need sizing (position_at row column) (text_at rows (position_at row column));
  has_boundary = λ i. has_row_boundary sizing.borders (boundary_kind i (length rows));
}
