-- What a table shows: the characters of its texts, each in its style, and its glyphs and fills in their colours.
use Rattle.std.specs.Prelude.{ℕ, ◌==◌, ◌&&◌, Bool, List, [], ◌∷◌, ◌++◌, None, Option, Some, flat_map, if◌then◌else◌, length, map, slice_index_or}
use Rattle.std.specs.Char.{is_whitespace}
use Rattle.std.specs.List.{filter, range_with_len}
use Rattle.grid_config.specs.Colors.{Color}
use Rattle.grid_config.specs.Looks.{Look}
use Rattle.grid_config_values.specs.declared.position.Position.{Position}
use Rattle.grid_records_measure.specs.Measures.{measure}
use Rattle.grid_records_measure.specs.TextLines.{line_feed}
use Rattle.papergrid.specs.Chosen.{kind_of_line}
use Rattle.papergrid.specs.LineKind.{LineKind}
use Rattle.papergrid_picture.specs.Colors.ColoredPicture.{line_in, opened_by}
use Rattle.papergrid_picture.specs.Blocks.{Grid}
use Rattle.papergrid_picture.specs.Frame.{line_kind}
use Rattle.papergrid_picture.specs.Reading.{Reading, grid_items, grid_line}
use Rattle.papergrid_picture.specs.Shown.{Styled, cell_item_lines, character_of, in_plain, styled_texts}
use Rattle.papergrid_picture.specs.Tables.{in_bytes}
use Rattle.tabled_steps.specs.States.{State, state_with}
use Rattle.tabled_list.specs.Stripping.Printing.{drawn_frame}
use Rattle.tabled_list.specs.Stripping.Totals.{drawn_height}

-- ---- lines of styled characters

-- without the white space at their start, and at their end (Unicode, White_Space)
abbrev pub without_white_start : List Styled → List Styled
without_white_start [] = []
without_white_start (x ∷ xs) = if is_whitespace x.0 then without_white_start xs else x ∷ xs

abbrev pub without_white_end : List Styled → List Styled
without_white_end [] = []
without_white_end (x ∷ xs) = if is_whitespace x.0 && length (without_white_end xs) == 0 then [] else x ∷ without_white_end xs

-- with a horizontal trim without both, and else the line
abbrev pub trimmed_if : Bool → List Styled → List Styled
trimmed_if trims line = if trims then without_white_end (without_white_start line) else line

-- ---- the picture

module _ (s : State) where
  -- the lines that a cell shows, by the styled characters of its text
  abbrev pub styled_lines : Position → List (List Styled)
  styled_lines cell = map (trimmed_if (s.look.trim_horizontal cell)) (cell_item_lines character_of in_plain s.look (styled_texts s.rows) cell)

  -- each line of a cell in the cell's colour; glyphs and fills in theirs, or plain; line feeds plain
  abbrev pub in_styles : Reading Styled
  in_styles = record {
    item = λ c. in_plain c ∷ [];
    line = λ cell k. line_in (s.colors cell) ((in_bytes s.look s.rows).line cell k) (slice_index_or (styled_lines cell) k []);
    paint = λ color items. map (λ x. (x.0, opened_by color)) items;
  }

  -- a line measures what its characters measure
  abbrev pub shown_grid : Grid
  shown_grid = record {
    frame = drawn_frame s;
    measures = λ cell. map (λ line. measure (map character_of line)) (styled_lines cell);
    text_color = λ _. None;
  }

  -- line y
  abbrev pub shown_line : ℕ → List Styled
  shown_line y = grid_line in_styles shown_grid y

  -- all lines, a line feed between each two
  abbrev pub shown_picture : List Styled
  shown_picture = grid_items in_styles shown_grid

  -- ---- of its lines those that are chosen

  -- their numbers
  abbrev pub chosen_numbers : (LineKind → Bool) → List ℕ
  chosen_numbers chooses = filter (λ y. chooses (kind_of_line (line_kind (drawn_frame s).rows y))) (range_with_len 0 (drawn_height s))

  -- each with a line feed after it
  abbrev pub chosen_picture : (LineKind → Bool) → List Styled
  chosen_picture chooses = flat_map (λ y. shown_line y ++ in_plain line_feed ∷ []) (chosen_numbers chooses)

-- ---- of given sizes

-- a table that keeps these sizes of its columns and rows
abbrev pub sized : Look → List (List (List ℕ)) → (Position → Option Color) → List ℕ → List ℕ → State
sized look rows colors widths heights = state_with rows look colors (record { widths = Some widths; heights = Some heights })
