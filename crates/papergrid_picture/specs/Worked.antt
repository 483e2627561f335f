-- Pictures that can be worked out by hand: tables of plain texts.
use Rattle.std.specs.Prelude.{ℕ, false, List, [], ◌∷◌, ◌++◌, Option, None, Some, ◌+◌, ◌==◌, codes, if◌then◌else◌, map, length, slice_index_or, unwrap_or}
use Rattle.std.specs.List.{find, range_with_len}
use Rattle.std.specs.Option.{option_map}
use Rattle.grid_config_values.specs.declared.alignment.AlignmentHorizontal.TheVariants.{Left, Center, Right}
use Rattle.grid_config_values.specs.declared.alignment.AlignmentVertical.TheVariants.{Top}
use Rattle.grid_config_values.specs.declared.borders.Borders.{Borders}
use Rattle.grid_config_values.specs.declared.position.Position.{Position}
use Rattle.grid_config_values.specs.declared.sides.Indent.{Indent}
use Rattle.grid_config_values.specs.declared.sides.Sides.{Sides}
use Rattle.grid_config_values.specs.Order.{same_place}
use Rattle.grid_config_values.specs.Glyphs.{no_borders}
use Rattle.grid_config_values.specs.declared.spans.extent.Extent.{Extent}
use Rattle.grid_config_values.specs.Spans.Spans.{single}
use Rattle.grid_config.specs.Colors.{Color}
use Rattle.grid_config.specs.Compact.{each_side, no_indent}
use Rattle.grid_config.specs.Looks.{Look}
use Rattle.papergrid_picture.specs.Frame.{frame_of}
use Rattle.papergrid_picture.specs.Blocks.{Grid}
use Rattle.papergrid_picture.specs.Picture.{at}
use Rattle.papergrid_picture.specs.Reading.{grid_items}
use Rattle.papergrid_picture.specs.Tables.{in_color}

-- one glyph for each boundary of rows, one for each of columns, and one where they meet
abbrev pub borders_of : ℕ → ℕ → ℕ → Borders ℕ
borders_of h v x = record {
  top = Some h;
  top_left = Some x;
  top_right = Some x;
  top_intersection = Some x;
  bottom = Some h;
  bottom_left = Some x;
  bottom_right = Some x;
  bottom_intersection = Some x;
  horizontal = Some h;
  left_intersection = Some x;
  right_intersection = Some x;
  intersection = Some x;
  vertical = Some v;
  left = Some v;
  right = Some v;
}

abbrev pub ascii : Borders ℕ
ascii = borders_of 0x2d 0x7c 0x2b

-- a glyph of its own at each place
abbrev pub lettered : Borders ℕ
lettered = record {
  top_left = Some 0x61;
  top = Some 0x62;
  top_intersection = Some 0x63;
  top_right = Some 0x64;
  left = Some 0x65;
  vertical = Some 0x66;
  right = Some 0x67;
  left_intersection = Some 0x68;
  horizontal = Some 0x69;
  intersection = Some 0x6a;
  right_intersection = Some 0x6b;
  bottom_left = Some 0x6c;
  bottom = Some 0x6d;
  bottom_intersection = Some 0x6e;
  bottom_right = Some 0x6f;
}

-- these extents, and every other cell is a single one
abbrev pub extents : List (Position × Extent) → Position → Extent
extents spans place = unwrap_or (option_map (λ span. span.1) (find (λ span. same_place span.0 place) spans)) single

abbrev pub span : ℕ → ℕ → ℕ → ℕ → Position × Extent
span row column rows columns = (at row column, record { rows = rows; columns = columns })

abbrev pub bare_look : Look
bare_look = record {
  margin = each_side no_indent;
  margin_color = each_side None;
  borders = ascii;
  borders_color = no_borders;
  padding = λ _. each_side no_indent;
  padding_color = λ _. each_side None;
  alignment_horizontal = λ _. Left;
  alignment_vertical = λ _. Top;
  line_alignment = λ _. false;
  trim_horizontal = λ _. false;
  trim_vertical = λ _. false;
  justification = λ _. 0x20;
  justification_color = λ _. None;
  extent = λ _. single;
}

-- the lines of the cell at a place
abbrev pub lines_at : List (List (List (List ℕ))) → Position → List (List ℕ)
lines_at texts p = slice_index_or (slice_index_or texts p.row []) p.col ([] ∷ [])

-- the picture of cells by their lines, where each character takes one column
abbrev pub drawn_in : (Position → Option Color) → Look → List ℕ → List ℕ → List (List (List (List ℕ))) → List ℕ
drawn_in colors look widths heights texts =
    grid_items
    (record { item = λ c. c ∷ []; line = λ p k. slice_index_or (lines_at texts p) k []; paint = in_color })
    (record { frame = frame_of look widths heights; measures = λ p. map (λ line. length line) (lines_at texts p); text_color = colors })

abbrev pub drawn : Look → List ℕ → List ℕ → List (List (List (List ℕ))) → List ℕ
drawn look widths heights texts = drawn_in (λ _. None) look widths heights texts

-- the same, where no line takes a column
abbrev pub drawn_unmeasured : Look → List ℕ → List ℕ → List (List (List (List ℕ))) → List ℕ
drawn_unmeasured look widths heights texts =
    grid_items
    (record { item = λ c. c ∷ []; line = λ p k. slice_index_or (lines_at texts p) k []; paint = in_color })
    (record { frame = frame_of look widths heights; measures = λ p. map (λ line. 0) (lines_at texts p); text_color = λ _. None })

-- cells of one line
abbrev pub cells : List (List ℕ) → List (List (List ℕ))
cells texts = map (λ text. text ∷ []) texts

-- the lines of a text, a line feed between each two
abbrev pub joined_lines : List (List ℕ) → List ℕ
joined_lines [] = []
joined_lines (line ∷ []) = line
joined_lines (line ∷ next ∷ lines) = line ++ (0x0a ∷ joined_lines (next ∷ lines))

-- `rows` rows of `columns` cells, each of which shows its row and its column, both below ten
abbrev pub numbered_cells : ℕ → ℕ → List (List (List (List ℕ)))
numbered_cells rows columns =
    map (λ row. map (λ column. ((0x30 + row) ∷ 0x2d ∷ (0x30 + column) ∷ []) ∷ []) (range_with_len 0 columns)) (range_with_len 0 rows)

abbrev pub bracketed : Color
bracketed = record { prefix = codes "["; suffix = codes "]" }

-- another one, which begins alike
abbrev pub half_bracketed : Color
half_bracketed = record { prefix = codes "["; suffix = codes ")" }

-- and one that ends alike
abbrev pub round_bracketed : Color
round_bracketed = record { prefix = codes "("; suffix = codes "]" }

-- a colour of its own at each side
abbrev pub sided : Sides (Option Color)
sided = record {
  left = Some (record { prefix = codes "<"; suffix = codes ">" });
  right = Some (record { prefix = codes "("; suffix = codes ")" });
  top = Some (record { prefix = codes "{"; suffix = codes "}" });
  bottom = Some (record { prefix = codes "*"; suffix = codes "*" });
}

-- a colour that writes this character before its text, and a point after it
abbrev pub before_point : ℕ → Option Color
before_point character = Some (record { prefix = character ∷ []; suffix = 0x2e ∷ [] })

-- a colour of its own at each place: that of the glyph which `lettered` has there, by its capital letter
abbrev pub capitals : Borders Color
capitals = record {
  top_left = before_point 0x41;
  top = before_point 0x42;
  top_intersection = before_point 0x43;
  top_right = before_point 0x44;
  left = before_point 0x45;
  vertical = before_point 0x46;
  right = before_point 0x47;
  left_intersection = before_point 0x48;
  horizontal = before_point 0x49;
  intersection = before_point 0x4a;
  right_intersection = before_point 0x4b;
  bottom_left = before_point 0x4c;
  bottom = before_point 0x4d;
  bottom_intersection = before_point 0x4e;
  bottom_right = before_point 0x4f;
}

abbrev pub indent : ℕ → ℕ → Indent
indent size character = record { size = size; fill = character }

-- a column of `<` and `>` at the sides, a line of `^` above and of `_` below
abbrev pub framed : Sides Indent
framed = record { left = indent 1 0x3c; right = indent 1 0x3e; top = indent 1 0x5e; bottom = indent 1 0x5f }

abbrev pub padded : Look
padded = record bare_look { padding = λ _. framed }

-- the same round the table, with two columns at the right and two lines above
abbrev pub with_margins : Look
with_margins = record bare_look { margin = record framed { right = indent 2 0x3e; top = indent 2 0x5e } }

-- boundaries round the table alone
abbrev pub outer : Look
outer = record bare_look {
  borders = record no_borders {
    top = Some 0x2d;
    top_left = Some 0x2b;
    top_right = Some 0x2b;
    bottom = Some 0x2d;
    bottom_left = Some 0x2b;
    bottom_right = Some 0x2b;
    left = Some 0x7c;
    right = Some 0x7c;
  };
}

-- glyphs at the left and right and along the bottom alone
abbrev pub no_top : Look
no_top = record bare_look { borders = record no_borders { left = Some 0x7c; right = Some 0x7c; bottom = Some 0x2d } }

-- a colour along the top line and where it meets the boundary between columns, which is coloured too
abbrev pub crossed : Look
crossed = record bare_look { borders_color = record no_borders { top = Some bracketed; top_intersection = Some bracketed; vertical = Some bracketed } }

-- text in the middle between coloured points
abbrev pub spaced : Look
spaced = record bare_look { alignment_horizontal = λ _. Center; justification = λ _. 0x2e; justification_color = λ _. Some bracketed }

-- the first column to the right between points, with paddings; the others to the left before commas, without
abbrev pub each_its_own : Look
each_its_own = record bare_look {
  padding = λ cell. if cell.col == 0 then framed else each_side no_indent;
  alignment_horizontal = λ cell. if cell.col == 0 then Right else Left;
  justification = λ cell. if cell.col == 0 then 0x2e else 0x2c;
}

-- a cell that measures one column, in a row of height 0 and a column of width 0
abbrev pub hidden_cell : Grid
hidden_cell = record { frame = frame_of (record bare_look { borders = no_borders }) (0 ∷ []) (0 ∷ []); measures = λ _. 1 ∷ []; text_color = λ _. None }

-- one red cell of two lines
abbrev pub red_rows : List (List (List ℕ))
red_rows = ((codes "\u{1b}[31ma\nb") ∷ []) ∷ []
