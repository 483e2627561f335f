-- Pools that can be worked out by hand: each character takes one column.
use Rattle.std.specs.Prelude.{ℕ, List, [], ◌∷◌, ◌++◌, Some, codes, encode_utf8, flat_map, length, map}
use Rattle.grid_config.specs.Looks.{Look}
use Rattle.grid_config.specs.Compact.{no_indent}
use Rattle.grid_config_values.specs.Glyphs.{no_borders}
use Rattle.papergrid_picture.specs.Worked.{bare_look, bracketed, indent, padded, sided, with_margins}
use Rattle.tabled_glyphs.specs.Glyphs.{modern}
use Rattle.tabled_size.specs.declared.dimension.priority.DimensionPriority.TheVariants.{First, Last, List as Each}
use Rattle.tabled_size.specs.Dimension.Takers.{Takers}
use Rattle.tabled_pool.specs.Boxes.Boxes.{Box, cell_box, column_box, row_box}

-- a space at both sides of each text, in `-`, `|` and `+`
abbrev pub ascii : Look
ascii = record bare_look { padding = λ _. record { left = indent 1 0x20; right = indent 1 0x20; top = no_indent; bottom = no_indent } }

-- the same in light lines
abbrev pub in_lines : Look
in_lines = record ascii { borders = modern }

-- as much to each
abbrev pub each : Takers
each = record { width = Each; height = Each }

abbrev pub last : Takers
last = record { width = Last; height = Each }

-- all columns to the first member of a row, and all lines to the last one of a column
abbrev pub first_across : Takers
first_across = record { width = First; height = Last }

-- all lines to the first one, and all columns to the last
abbrev pub first_down : Takers
first_down = record { width = Last; height = First }

-- a padding of `<`, `>`, `^` and `_`, each side in a colour of its own
abbrev pub colored_padding : Look
colored_padding = record padded { padding_color = λ _. sided }

-- the margin of a grid that is worked out by hand, each side in a colour of its own; and a space at
-- both sides of each text
abbrev pub colored_margin : Look
colored_margin = record with_margins { margin_color = sided; padding = ascii.padding }

-- the line above and the left side in one colour
abbrev pub colored_corner : Look
colored_corner = record bare_look { borders_color = record no_borders { top = Some bracketed; top_left = Some bracketed; top_right = Some bracketed; left = Some bracketed } }

module _ (look : Look) where
  abbrev pub lines_box : List (List ℕ) → Box
  lines_box lines = cell_box look (map (λ line. length line) lines) lines

  abbrev pub cell : List ℕ → Box
  cell text = lines_box (text ∷ [])

  abbrev pub row : List (List ℕ) → Box
  row texts = row_box look (map cell texts)

  abbrev pub rows : List (List (List ℕ)) → Box
  rows texts = column_box look (map row texts)

  -- three cells one below the other, beside a cell of ten lines
  abbrev pub beside_ten : Box
  beside_ten =
      row_box look (column_box look (cell (codes "a") ∷ cell (codes "b") ∷ cell (codes "c") ∷ [])
      ∷ lines_box (map (λ digit. digit ∷ []) (codes "0123456789")) ∷ [])

  -- a cell beside a cell of four lines
  abbrev pub beside_four : Box
  beside_four = row_box look (lines_box (map (λ digit. digit ∷ []) (codes "1234")) ∷ cell (codes "d") ∷ [])

  -- a cell of two lines
  abbrev pub hello : Box
  hello = lines_box (codes "Hello" ∷ codes "World" ∷ [])

  abbrev pub nested : Box
  nested = column_box look (row_box look (column_box look (hello ∷ []) ∷ column_box look (hello ∷ row_box look (hello ∷ hello ∷ hello ∷ []) ∷ []) ∷ []) ∷ hello ∷ [])

abbrev pub greetings : Box
greetings =
    rows ascii ((codes "Hello" ∷ codes "World" ∷ codes "!" ∷ [])
    ∷ (codes "Salve, mondo!" ∷ [])
    ∷ (codes "Hola" ∷ codes "mundo" ∷ [] ∷ [] ∷ codes "!" ∷ []) ∷ [])

-- these lines, a line feed between each two
abbrev pub text_of_lines : List (List ℕ) → List ℕ
text_of_lines [] = []
text_of_lines (line ∷ []) = flat_map encode_utf8 line
text_of_lines (line ∷ next ∷ lines) = flat_map encode_utf8 line ++ (0x0a ∷ text_of_lines (next ∷ lines))
