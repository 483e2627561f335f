-- The table of some rows, and what is printed of it.
use Rattle.std.specs.Prelude.{◌≡◌, ◌⊎◌, ℕ, nat_lt, Bool, false, List, ◌++◌, MatchOption, Option, None, Some, if◌then◌else◌, map}
use Rattle.std.specs.List.{range_with_len}
use Rattle.grid_config_values.specs.declared.fault.Fault.{Fault}
use Rattle.tabled.specs.Tables.{new_state}
use Rattle.tabled.specs.Totals.{drawn_width}
use Rattle.tabled_list.specs.Lists.{LeadsThrough}
use Rattle.tabled_list.specs.declared.setting.Setting.{Setting}
use Rattle.tabled_steps.specs.States.{State}
use Rattle.tabled_text.specs.Rows.{filled, longest}
use Rattle.basinmug_columns.specs.Needs.{needs_of}
use Rattle.basinmug_columns.specs.declared.rows.RowsShown.{RowsShown}
use Rattle.basinmug_columns.specs.Numbers.Columns.{is_numeric}
use Rattle.basinmug_columns.specs.declared.rooms.Need.{Need}
use Rattle.basinmug_run.specs.declared.options.Options.{Options}
use Rattle.basinmug_run.specs.Picture.Settings.{settings_of}
use Rattle.basinmug_run.specs.Picture.Names.{missing_names}
use Rattle.basinmug_run.specs.Picture.Narrowing.{IsNotNarrowed, IsRefusedIn, FitsTexts}
use Rattle.basinmug_run.specs.Picture.Rows.{cells_of, header_of, is_markdown, records_of}

-- which of the columns are of numbers
abbrev pub numeric_of : Bool → List (List (List ℕ)) → List Bool
numeric_of header rows = map (is_numeric (records_of header rows)) (range_with_len 0 (longest rows))

-- what each of the columns needs
abbrev pub needs_in : Bool → List (List (List ℕ)) → List Need
needs_in header rows = needs_of (header_of header rows) (records_of header rows) (numeric_of header rows)

-- how wide a table may be: a document is never wrapped, and is as wide as its text
abbrev pub narrowed_to : Options → Option ℕ
narrowed_to options = if is_markdown options.line_style then None else options.width

-- a table after these settings, made narrower where a width is requested; its columns have these needs
abbrev pub IsMade : Options → List Setting → List Need → State → State → Type 0
IsMade options settings needs old new =
    (after : State) × LeadsThrough settings old after × MatchOption (narrowed_to options) (new ≡ after) (λ width. FitsTexts options.truncate options.priority needs width after new)

-- its settings are refused, or it is not made narrower
abbrev pub IsNotMade : Options → List Setting → List Need → State → Fault → Type 0
IsNotMade options settings needs old fault =
    IsRefusedIn settings old fault
    ⊎ ((after : State) × LeadsThrough settings old after × MatchOption (narrowed_to options) ⊥ (λ width. IsNotNarrowed options.truncate options.priority needs width after fault))

module _ (options : Options) (rows : List (List (List ℕ))) where
  -- the names of columns in the options that the header does not have, in turn
  abbrev pub missing_of : List (List ℕ)
  missing_of =
      let header = header_of options.header rows in
      missing_names header options.alignments.items ++ missing_names header options.colors.items

  -- the settings before the table is made narrower
  abbrev pub asked_settings : List Setting
  asked_settings = settings_of options.line_style (header_of options.header rows) (numeric_of options.header rows) options.alignments.items options.colors.items

module _ (options : Options) (shown : RowsShown) (rows : List (List (List ℕ))) where
  -- the rows as cells
  abbrev pub cells_in : List (List (List ℕ))
  cells_in = cells_of options.line_style options.header shown rows

  -- the table of these cells, the short rows filled with empty texts, after its settings
  abbrev pub IsTable : State → Type 0
  IsTable = IsMade options (asked_settings options rows) (needs_in options.header rows) (new_state (filled cells_in))

  -- there is no such table
  abbrev pub HasNoTable : Fault → Type 0
  HasNoTable = IsNotMade options (asked_settings options rows) (needs_in options.header rows) (new_state (filled cells_in))

-- whether a table is wider than is requested
abbrev pub is_wider : Option ℕ → State → Bool
is_wider None s = false
is_wider (Some width) s = nat_lt width (drawn_width s)
