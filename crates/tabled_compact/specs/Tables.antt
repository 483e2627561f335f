-- A compact table by what it is, and what it prints: each row of it in one line.
use Rattle.std.specs.Prelude.{◌≡◌, ℕ, List, Option, None, Some, Result, drop, take}
use Rattle.grid_config_values.specs.declared.fault.Fault.{Fault}
use Rattle.grid_config_values.specs.declared.position.Position.{Position}
use Rattle.grid_config.specs.Colors.{Color}
use Rattle.grid_config.specs.Compact.{Compact, compact_of, new_compact}
use Rattle.grid_config.specs.Looks.{Look, compact_look}
use Rattle.grid_records_traits.specs.Rows.{evened}
use Rattle.papergrid.specs.Compact.{FitsCompact, IsCompactAnswer, compact_text}
use Rattle.tabled_options.specs.Options.{spaced_sides}
use Rattle.tabled_glyphs.specs.Glyphs.{ascii}
use Rattle.tabled_size.specs.Dimension.Stored.{none_stored}
use Rattle.tabled_steps.specs.States.{State, state_with}
use Rattle.tabled_compact.specs.declared.table.CompactTable.{CompactTable}

-- ---- what it is

-- the rows of its source, its settings, the width of each column, and how many columns it has. Then come how many rows
-- of the source it passes over, and how many after them it keeps, or all
pub record Compacted : Type 0 where
  pub rows : List (List (List ℕ))
  pub settings : Compact
  pub width : ℕ → ℕ
  pub columns : ℕ
  pub skipped : ℕ
  pub kept : Option ℕ

abbrev pub compacted : {I D : Type 0} → (I → List (List (List ℕ))) → (D → ℕ → ℕ) → CompactTable I D → Compacted
compacted rows width table = record {
  rows = rows table.records;
  settings = compact_of table.config;
  width = width table.dimension;
  columns = table.columns;
  skipped = table.skipped;
  kept = table.kept;
}

-- lines of ASCII, and a column of spaces at the left and right of each text
abbrev pub begun_settings : Compact
begun_settings = record new_compact { borders = ascii; padding = spaced_sides 1 1 0 0 }

-- a table that no call has changed yet: it has no columns
abbrev pub begun : List (List (List ℕ)) → (ℕ → ℕ) → Compacted
begun rows width = record { rows = rows; settings = begun_settings; width = width; columns = 0; skipped = 0; kept = None }

-- what its options see
abbrev pub state_for_options : Compacted → State
state_for_options table = state_with table.rows (compact_look table.settings) (λ _. None) none_stored

-- the look without padding above and below texts
abbrev pub flat_look : Look → Look
flat_look look = record look {
  padding = λ cell. let sides = look.padding cell in record sides { top = record sides.top { size = 0 }; bottom = record sides.bottom { size = 0 } };
}

-- an option changes the rows of the source and the settings, and nothing else
pub record KeepsShape (before after : Compacted) : Type 0 where
  pub width : after.width ≡ before.width
  pub columns : after.columns ≡ before.columns
  pub skipped : after.skipped ≡ before.skipped
  pub kept : after.kept ≡ before.kept

-- ---- what it prints

-- the first `count`, or all
abbrev pub first_or_all : {T : Type 0} → Option ℕ → List T → List T
first_or_all None items = items
first_or_all (Some count) items = take count items

-- after the rows that are passed over as many as are kept, each of as many cells as the table has columns
abbrev pub shown_rows : Compacted → List (List (List ℕ))
shown_rows table = evened table.columns (first_or_all table.kept (drop table.skipped table.rows))

-- no cell has a colour
abbrev pub no_colors : Position → Option Color
no_colors _ = None

abbrev pub printed : Compacted → List ℕ
printed table = compact_text table.settings table.width table.columns (shown_rows table) no_colors

-- whether it fits its widths, refused as `Range` or `Room`, in this order
abbrev pub IsFitsAnswer : Compacted → Result (Unit {0}) Fault → Type 0
IsFitsAnswer table answer = IsCompactAnswer table.settings table.width table.columns (shown_rows table) answer

abbrev pub CanBeDrawnCompact : Compacted → Type 0
CanBeDrawnCompact table = FitsCompact table.settings table.width table.columns (shown_rows table)
