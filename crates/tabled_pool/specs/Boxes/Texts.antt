-- The text of a pool: its lines, and the margin round them.
use Rattle.std.specs.Prelude.{ℕ, ◌+◌, ◌-◌, ◌==◌, ◌^◌, ◌≤◌, max, Bool, Option, List, [], ◌∷◌, ◌++◌, flat_map, length, map, replicate, slice_index_or, if◌then◌else◌}
use Rattle.std.specs.List.{range_with_len}
use Rattle.grid_config.specs.Colors.{Color}
use Rattle.grid_config.specs.Looks.{Look}
use Rattle.grid_config_values.specs.declared.sides.Indent.{Indent}
use Rattle.papergrid_cells.specs.Painting.{colored, fill_bytes}
use Rattle.tabled_size.specs.Dimension.Takers.{Takers}
use Rattle.tabled_pool.specs.Boxes.Boxes.{Box, BoxPart}
use Rattle.tabled_pool.specs.Boxes.Framed.{framed_height, framed_lines, framed_width}
use Rattle.tabled_pool.specs.Boxes.Crossings.{Around, marks, shapes_from}
use Rattle.tabled_pool.specs.Boxes.Runs.{line_bytes}

-- ---- lines

abbrev pub box_line : List (List BoxPart) → ℕ → List BoxPart
box_line lines y = slice_index_or lines y []

-- what is in the columns of the lines before line y, at it and after it: nothing before the first and after the last
abbrev pub around_line : List (List BoxPart) → ℕ → Around
around_line lines y = record {
  above = if y == 0 then [] else marks (box_line lines (y - 1));
  here = marks (box_line lines y);
  below = marks (box_line lines (y + 1));
}

-- line y in bytes
abbrev pub printed_line : Look → List (List BoxPart) → ℕ → List ℕ
printed_line look lines y = line_bytes (shapes_from look (around_line lines y) 0 (box_line lines y))

-- all of them
abbrev pub printed_lines : Look → List (List BoxPart) → List (List ℕ)
printed_lines look lines = map (printed_line look lines) (range_with_len 0 (length lines))

-- each line after a line feed
abbrev pub behind_feeds : List (List ℕ) → List ℕ
behind_feeds lines = flat_map (λ line. 0x0a ∷ line) lines

-- lines with a line feed between each two
abbrev pub joined_lines : List (List ℕ) → List ℕ
joined_lines [] = []
joined_lines (line ∷ lines) = line ++ behind_feeds lines

-- ---- margins

module _ (look : Look) where
  -- a line between the margins at its sides
  abbrev pub in_margins : List ℕ → List ℕ
  in_margins line =
      colored look.margin_color.left (fill_bytes look.margin.left.fill look.margin.left.size)
      ++ (line ++ colored look.margin_color.right (fill_bytes look.margin.right.fill look.margin.right.size))

  -- a line of the top or the bottom margin: its own fill over the width of the frame
  abbrev pub margin_line : ℕ → Indent → Option Color → List ℕ
  margin_line width margin color = in_margins (colored color (fill_bytes margin.fill width))

  abbrev pub with_margins : ℕ → List (List ℕ) → List (List ℕ)
  with_margins width lines =
      replicate look.margin.top.size (margin_line width look.margin.top look.margin_color.top)
      ++ (map in_margins lines
      ++ replicate look.margin.bottom.size (margin_line width look.margin.bottom look.margin_color.bottom))

-- ---- the text

module _ (look : Look) (takers : Takers) (box : Box) where
  abbrev pub lines : List (List ℕ)
  lines = printed_lines look (framed_lines look takers box)

  abbrev pub shows_nothing : Bool
  shows_nothing = length (joined_lines lines) == 0

  -- a pool that shows nothing has no margin
  abbrev pub pool_text : List ℕ
  pool_text = if shows_nothing then [] else joined_lines (with_margins look (framed_width look box) lines)

  -- how wide and how high it is with its margin
  abbrev pub total_width : ℕ
  total_width = if shows_nothing then framed_width look box else look.margin.left.size + framed_width look box + look.margin.right.size

  abbrev pub total_height : ℕ
  total_height = if shows_nothing then framed_height look box else look.margin.top.size + framed_height look box + look.margin.bottom.size

  -- the one or the other is out of the range of `usize`
  abbrev pub IsPoolTooLarge : Type 0
  IsPoolTooLarge = 2 ^ 64 ≤ max total_width total_height
