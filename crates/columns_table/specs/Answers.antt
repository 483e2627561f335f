-- Which results a table of texts in a requested width may have.
use Rattle.std.specs.Prelude.{◌≡◌, ℕ, List, None, Option, Some, ⊤}
use Rattle.grid_config.specs.Colors.{Color}
use Rattle.grid_config.specs.Compact.{Compact}
use Rattle.grid_config.specs.Looks.{compact_look}
use Rattle.grid_config_values.specs.declared.fault.Fault.{Fault}
use Rattle.grid_config_values.specs.declared.fault.Fault.TheVariants.{Memory, Range, Room, Spans}
use Rattle.grid_config_values.specs.declared.position.Position.{Position}
use Rattle.grid_records_measure.specs.TextLines.{line_feed}
use Rattle.papergrid_picture.specs.Picture.{at}
use Rattle.papergrid_picture.specs.Tables.{table_text}
use Rattle.columns_asked.specs.DrawnTables.{AskedInRange, ended, frame_under, heights_of, too_wide, widths_of}
use Rattle.columns_asked.specs.declared.asked.WidthLimit.{WidthLimit}

-- the text of a table without a requested width, where cells have colours
abbrev pub natural_text : Compact → (Position → Option Color) → List (List (List ℕ)) → List ℕ
natural_text style colors texts =
    ended line_feed (frame_under style texts) (table_text (compact_look style) texts colors (widths_of style texts) (heights_of style texts))

module _ (style : Compact) (asked : WidthLimit) (texts : List (List (List ℕ))) where
  -- its sizes are in range, and each cell fits its column
  pub record HasTable : Type 0 where
    pub fits : AskedInRange style asked texts
    pub room : too_wide style asked texts ≡ None

  -- why it may be refused; the cases exclude one another, except for `Memory`. A table of texts has no spans
  abbrev pub MayBeRefused : Fault → Type 0
  MayBeRefused Range = ¬ (AskedInRange style asked texts)
  MayBeRefused (Room row column) = AskedInRange style asked texts × (too_wide style asked texts ≡ Some (at row column))
  MayBeRefused Memory = ⊤
  MayBeRefused Spans = ⊥
