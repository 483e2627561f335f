-- What a table shows where some of its cells have colours: characters, each with its style.
use Rattle.std.specs.Prelude.{ℕ, List, [], ◌∷◌, Option, None, Some}
use Rattle.ansi_scan.specs.Attributes.{Attributes, plain_attributes}
use Rattle.ansi_scan.specs.Pieces.{pieces}
use Rattle.ansi_str.specs.StyledText.{style_after_all, styled_from}
use Rattle.grid_config_values.specs.declared.position.Position.{Position}
use Rattle.grid_config.specs.Colors.{Color}
use Rattle.grid_config.specs.Looks.{Look}
use Rattle.papergrid_picture.specs.Reading.{Reading, grid_items}
use Rattle.papergrid_picture.specs.Shown.{Styled, character_of, in_items, in_plain, item_grid}
use Rattle.papergrid_picture.specs.Tables.{in_bytes}

-- the style that the prefix of a colour leaves (SELECT GRAPHIC RENDITION, ECMA-48, 8.3.117)
abbrev pub opened_by : Color → Attributes
opened_by color = style_after_all plain_attributes (pieces color.prefix)

-- what a line of a cell shows, by the colour of the cell, the bytes of the line, and its characters in their own
-- styles: these characters where the cell has no colour; else the characters of the bytes, each in the style which the
-- prefix leaves and the sequences of the line before it then change
abbrev pub line_in : Option Color → List ℕ → List Styled → List Styled
line_in None bytes characters = characters
line_in (Some color) bytes characters = styled_from (opened_by color) (pieces bytes)

-- the cells by their characters, by their texts, and by their colours
module _ (look : Look) (cells : List (List (List Styled))) (texts : List (List (List ℕ))) (colors : Position → Option Color) where
  -- lines of cells in the cells' colours; glyphs, fills and line feeds in the plain style
  abbrev pub in_colors : Reading Styled
  in_colors = record {
    item = λ c. in_plain c ∷ [];
    line = λ cell k. line_in (colors cell) ((in_bytes look texts).line cell k) ((in_items character_of in_plain look cells).line cell k);
    paint = λ _ items. items;
  }

  -- the picture without colours, except for the styles in the lines of coloured cells
  abbrev pub colored_picture : List ℕ → List ℕ → List Styled
  colored_picture widths heights = grid_items in_colors (item_grid character_of in_plain look cells widths heights)
