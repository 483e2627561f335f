-- What a compact grid prints: rows of one line each.
use Rattle.std.specs.Prelude.{◌≡◌, ℕ, List, Option, None, Result, length}
use Rattle.grid_config_values.specs.declared.fault.Fault.{Fault}
use Rattle.grid_config_values.specs.declared.position.Position.{Position}
use Rattle.grid_config.specs.Colors.{Color}
use Rattle.grid_config.specs.Compact.{Compact}
use Rattle.grid_config.specs.Looks.{compact_look}
use Rattle.papergrid_picture.specs.Fitting.{FitsAnswer, InRange, first_too_wide}
use Rattle.papergrid_picture.specs.Frame.{Frame, frame_of}
use Rattle.papergrid_picture.specs.Tables.{sizes_of}
use Rattle.papergrid_fits.specs.Grids.{grid_text}

-- compact settings without padding above and below texts
abbrev pub without_high_padding : Compact → Compact
without_high_padding compact = record compact {
  padding = record compact.padding {
    top = record compact.padding.top { size = 0 };
    bottom = record compact.padding.bottom { size = 0 };
  };
}

-- every row takes one line
abbrev pub one_line : ℕ → ℕ
one_line row = 1

-- a table of `columns` such columns and `rows` such rows: a cell of several lines shows the first
abbrev pub lined : Compact → (ℕ → ℕ) → ℕ → ℕ → Frame
lined compact width columns rows = frame_of (compact_look (without_high_padding compact)) (sizes_of width columns) (sizes_of one_line rows)

module _ (compact : Compact) (width : ℕ → ℕ) (columns : ℕ) (rows : List (List (List ℕ))) where
  abbrev pub compact_frame : Frame
  compact_frame = lined compact width columns (length rows)

  -- its text
  abbrev pub compact_text : (Position → Option Color) → List ℕ
  compact_text colors = grid_text (compact_look (without_high_padding compact)) width one_line colors columns rows

  -- whether it fits: range and widths, in this order. It has no spans, which are good, so `Spans` is never returned
  abbrev pub IsCompactAnswer : Result (Unit {0}) Fault → Type 0
  IsCompactAnswer answer = FitsAnswer compact_frame rows (Unit {0}) answer

  -- it fits: both totals are in range, and no cell needs more columns than it has
  pub record FitsCompact : Type 0 where
    pub range : InRange compact_frame
    pub room : first_too_wide compact_frame rows ≡ None
