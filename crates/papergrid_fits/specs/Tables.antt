-- A table by its settings, its sizes and its texts.
use Rattle.std.specs.Prelude.{◌≡◌, ℕ, List, None, Result, length}
use Rattle.grid_config_values.specs.declared.fault.Fault.{Fault}
use Rattle.grid_config_values.specs.Spans.Spans.{AreGood}
use Rattle.grid_config_values.specs.Glyphs.{boundary_kind, has_column_boundary, has_row_boundary}
use Rattle.grid_config.specs.Looks.{look_of}
use Rattle.grid_config.specs.Settings.{Settings}
use Rattle.papergrid_picture.specs.Fitting.{FitsAnswer, InRange, first_too_wide}
use Rattle.papergrid_picture.specs.Frame.{Frame, Tracks, frame_of}
use Rattle.papergrid_picture.specs.Tables.{sizes_of}

-- `columns` columns, or `rows` rows, of these sizes
abbrev pub column_tracks : Settings → (ℕ → ℕ) → ℕ → Tracks
column_tracks settings width columns = record {
  margin = settings.margin.left.size;
  sizes = sizes_of width columns;
  has_boundary = λ j. has_column_boundary settings.borders (boundary_kind j columns);
}

abbrev pub row_tracks : Settings → (ℕ → ℕ) → ℕ → Tracks
row_tracks settings height rows = record {
  margin = settings.margin.top.size;
  sizes = sizes_of height rows;
  has_boundary = λ i. has_row_boundary settings.borders (boundary_kind i rows);
}

-- a table of them
abbrev pub sized_frame : Settings → (ℕ → ℕ) → (ℕ → ℕ) → ℕ → ℕ → Frame
sized_frame settings width height columns rows = frame_of (look_of settings) (sizes_of width columns) (sizes_of height rows)

module _ (settings : Settings) (width height : ℕ → ℕ) (columns : ℕ) (rows : List (List (List ℕ))) where
  -- rows of texts in `columns` columns of these sizes
  abbrev pub table_frame : Frame
  table_frame = sized_frame settings width height columns (length rows)

  -- what `fits` returns
  abbrev pub IsFitsAnswer : Result (Unit {0}) Fault → Type 0
  IsFitsAnswer answer = FitsAnswer table_frame rows (AreGood settings.spans (length rows) columns) answer

  -- it returns that the table fits: its spans are good, both totals are in range, and no visible cell needs more
  -- columns than it has
  pub record CanBeDrawn : Type 0 where
    pub good : AreGood settings.spans (length rows) columns
    pub range : InRange table_frame
    pub room : first_too_wide table_frame rows ≡ None
