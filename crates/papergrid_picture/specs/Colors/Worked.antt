-- Colours, styles and tables that can be worked out by hand.
use Rattle.std.specs.Prelude.{ℕ, List, [], ◌∷◌, Option, None, Some, ◌==◌, codes, if◌then◌else◌, map, true}
use Rattle.ansi_scan.specs.declared.style.color.AnsiColor.TheVariants.{Bit4}
use Rattle.ansi_scan.specs.Attributes.{Attributes, plain_attributes}
use Rattle.grid_config_values.specs.declared.position.Position.{Position}
use Rattle.grid_config.specs.Colors.{Color}
use Rattle.papergrid_picture.specs.Shown.{Styled}

-- ---- colours

abbrev pub red : Color
red = record { prefix = codes "\u{1b}[31m"; suffix = codes "\u{1b}[39m" }

abbrev pub green : Color
green = record { prefix = codes "\u{1b}[32m"; suffix = codes "\u{1b}[39m" }

-- the cells of the second column red, the others without a colour
abbrev pub second_column_red : Position → Option Color
second_column_red cell = if cell.col == 1 then Some red else None

-- ---- styles

-- this foreground, and otherwise plain
abbrev pub in_foreground : ℕ → Attributes
in_foreground code = record plain_attributes { foreground = Some (Bit4 code) }

abbrev pub bold_in : ℕ → Attributes
bold_in code = record plain_attributes { bold = true; foreground = Some (Bit4 code) }

-- these characters in one style
abbrev pub styled_in : Attributes → List ℕ → List Styled
styled_in style characters = map (λ c. (c, style)) characters

-- ---- texts

-- two cells, a line each
abbrev pub two_cells : List (List (List ℕ))
two_cells = ((codes "a") ∷ (codes "b") ∷ []) ∷ []

-- a cell of two lines, the second of them bold
abbrev pub two_lines : List (List (List ℕ))
two_lines = ((codes "a\n\u{1b}[1mb") ∷ []) ∷ []
