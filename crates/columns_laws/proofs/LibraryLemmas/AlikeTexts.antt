-- A table shows of its rows the texts at their places.
use Rattle.std.proofs.Common.{◌≡◌, ℕ, List, [], Option, slice_index_or}
use Rattle.std.specs.Prelude.{encode_utf8}
use Rattle.grid_config.specs.Colors.{Color}
use Rattle.grid_config.specs.Looks.{Look}
use Rattle.grid_config_values.specs.declared.position.Position.{Position}
use Rattle.grid_records_traits.specs.Rows.{text_at}
use Rattle.papergrid_picture.specs.CellLines.{cell_lines, cell_measures}
use Rattle.papergrid_picture.specs.Frame.{frame_of}
use Rattle.papergrid_picture.specs.Reading.{grid_items}
use Rattle.papergrid_picture.specs.Tables.{in_color, table_text}

pub text-alike : (look : Look) (rows others : List (List (List ℕ))) (colors : Position → Option Color) (widths heights : List ℕ) → ((p : Position) → text_at rows p ≡ text_at others p)
    → table_text look rows colors widths heights ≡ table_text look others colors widths heights
text-alike look rows others colors widths heights alike = λ k. grid_items
    (record { item = encode_utf8; line = λ cell y. slice_index_or (cell_lines (look.trim_horizontal cell) (look.trim_vertical cell) (alike cell k)) y []; paint = in_color })
    (record { frame = frame_of look widths heights; measures = λ cell. cell_measures (look.trim_horizontal cell) (look.trim_vertical cell) (alike cell k); text_color = colors })
