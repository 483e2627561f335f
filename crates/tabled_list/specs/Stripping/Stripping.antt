-- Tables without the sequences of their texts, and settings that put in none.
use Rattle.std.specs.Prelude.{ℕ, List, Option, None, Some, IfSome, fold, string_bytes}
use Rattle.std.specs.List.{AllByRecursion}
use Rattle.grid_config.specs.Colors.{Color}
use Rattle.grid_config_values.specs.declared.borders.Borders.{Borders as Glyphs}
use Rattle.grid_config_values.specs.declared.fault.Fault.{Fault}
use Rattle.grid_config_values.specs.declared.fault.Fault.TheVariants.{Memory, Range, Room, Spans}
use Rattle.grid_config_values.specs.declared.position.Position.{Position}
use Rattle.papergrid_picture.specs.Colors.ClosingColors.{ShowsNothing}
use Rattle.papergrid_picture.specs.Blocks.{Grid}
use Rattle.papergrid_picture.specs.Reading.{painted}
use Rattle.papergrid_picture.specs.Shown.{BeginsNoSequence, IsTextWithoutEscape, OnEachSide, stripped_texts}
use Rattle.papergrid_picture.specs.Tables.{in_bytes, table_grid}
use Rattle.tabled_list.specs.declared.setting.Setting.{Setting}
use Rattle.tabled_list.specs.declared.setting.Setting.TheVariants.{Truncate, CellTruncate, CellMinWidth, Justification, Padding, Margin, Borders, Color as Colored}
use Rattle.tabled_size.specs.declared.dimension.suffix.SuffixLimit.{SuffixLimit}
use Rattle.tabled_size.specs.declared.dimension.suffix.SuffixLimit.TheVariants.{Cut, Ignore, Replace}
use Rattle.tabled_steps.specs.Looks.{covering}
use Rattle.tabled_steps.specs.States.{State}
use Rattle.tabled_list.specs.Stripping.Printing.{drawn_heights, drawn_widths}

-- ---- tables

-- the table of the same texts without their sequences
abbrev pub stripped_state : State → State
stripped_state s = record s { rows = stripped_texts s.rows }

-- the table without the colours of its cells
abbrev pub uncolored_state : State → State
uncolored_state s = record s { colors = λ _. None }

-- where its placed parts are
abbrev pub drawn_grid : State → Grid
drawn_grid s = table_grid s.look s.rows s.colors (drawn_widths s) (drawn_heights s)

-- what it prints of line k of a cell's text: its own bytes, in the colour of the cell
abbrev pub cell_line_bytes : State → Position → ℕ → List ℕ
cell_line_bytes s cell k = painted (in_bytes s.look s.rows) (s.colors cell) ((in_bytes s.look s.rows).line cell k)

-- ---- settings

-- what a limit leaves begins no sequence
abbrev pub LimitBeginsNoSequence : SuffixLimit → Type 0
LimitBeginsNoSequence Cut = Unit {0}
LimitBeginsNoSequence Ignore = Unit {0}
LimitBeginsNoSequence (Replace c) = BeginsNoSequence c

-- no glyph begins one
abbrev pub GlyphsBeginNoSequence : Glyphs ℕ → Type 0
GlyphsBeginNoSequence b =
    (IfSome b.top_left BeginsNoSequence × IfSome b.top_intersection BeginsNoSequence × IfSome b.top_right BeginsNoSequence)
    × (IfSome b.left_intersection BeginsNoSequence × IfSome b.intersection BeginsNoSequence × IfSome b.right_intersection BeginsNoSequence)
    × (IfSome b.bottom_left BeginsNoSequence × IfSome b.bottom_intersection BeginsNoSequence × IfSome b.bottom_right BeginsNoSequence)
    × (IfSome b.top BeginsNoSequence × IfSome b.horizontal BeginsNoSequence × IfSome b.bottom BeginsNoSequence)
    × (IfSome b.left BeginsNoSequence × IfSome b.vertical BeginsNoSequence × IfSome b.right BeginsNoSequence)

-- the setting puts in no character that begins a sequence, and no colour but one that is sequences alone
abbrev pub PutsInNoEscape : Setting → Type 0
PutsInNoEscape (Truncate width suffix limit multiline try_color priority) = IsTextWithoutEscape (string_bytes suffix) × LimitBeginsNoSequence limit
PutsInNoEscape (CellTruncate at width suffix limit multiline try_color) = IsTextWithoutEscape (string_bytes suffix) × LimitBeginsNoSequence limit
PutsInNoEscape (CellMinWidth at width fill) = BeginsNoSequence fill
PutsInNoEscape (Justification at fill) = BeginsNoSequence fill
PutsInNoEscape (Padding at value) = OnEachSide (λ indent. BeginsNoSequence indent.fill) value
PutsInNoEscape (Margin value) = OnEachSide (λ indent. BeginsNoSequence indent.fill) value
PutsInNoEscape (Borders value) = GlyphsBeginNoSequence value
PutsInNoEscape (Colored at color) = ShowsNothing color
PutsInNoEscape _ = Unit {0}

abbrev pub PutInNoEscape : List Setting → Type 0
PutInNoEscape settings = AllByRecursion PutsInNoEscape settings

-- the colours of cells after a setting that is accepted
abbrev pub colored_by : (Position → Option Color) → Setting → Position → Option Color
colored_by colors (Colored at color) = covering at (Some color) colors
colored_by colors _ = colors

-- and after a list of them
abbrev pub colors_after : List Setting → (Position → Option Color) → Position → Option Color
colors_after settings colors = fold colored_by colors settings

-- ---- refusals

-- a refusal that is no want of memory
abbrev pub IsOfTable : Fault → Type 0
IsOfTable Memory = ⊥
IsOfTable Range = Unit {0}
IsOfTable Spans = Unit {0}
IsOfTable (Room row column) = Unit {0}
