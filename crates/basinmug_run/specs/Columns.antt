-- Rows of chosen columns, and what is requested of these. A text is the list of its bytes; columns of the input have
-- numbers from 0.
use Rattle.std.specs.Prelude.{◌≡◌, ℕ, ◌+◌, ◌-◌, ◌==◌, ◌&&◌, nat_eq, nat_lt, Bool, true, false, List, [], ◌∷◌, ◌++◌, Option, None, Some, decimal, if◌then◌else◌, length, map, slice_index_or}
use Rattle.std.specs.List.{count_by, flat_map, range_with_len}
use Rattle.std.specs.Borrow.{Bor}
use Rattle.std.specs.HashMap.{HashMap, get}
use Rattle.std.specs.Option.{option_map, option_or}
use Rattle.grid_config.specs.Colors.{Color as CellColor}
use Rattle.grid_config_values.specs.declared.alignment.AlignmentHorizontal.{AlignmentHorizontal}
use Rattle.tabled_text.specs.Rows.{longest}
use Rattle.basinmug_columns.specs.Fitting.Fitting.{ellipsis}
use Rattle.basinmug_columns.specs.Names.{column_number}
use Rattle.basinmug_columns.specs.Shown.{columns_that_fit, numbered}
use Rattle.basinmug_columns.specs.declared.shown.ShownColumn.{ShownColumn}
use Rattle.basinmug_columns.specs.declared.shown.ShownColumn.TheVariants.{Number, LeftOut}
use Rattle.program_options.specs.declared.basinmug.ColumnChoice.{ColumnChoice}
use Rattle.program_options.specs.declared.basinmug.ColumnChoice.TheVariants.{One, Range}
use Rattle.program_options.specs.declared.basinmug.ColumnName.{ColumnName}
use Rattle.program_options.specs.declared.basinmug.ColumnName.TheVariants.{Number as ByNumber, Header}
use Rattle.program_options.specs.declared.basinmug.LineStyle.{LineStyle}
use Rattle.program_options.specs.declared.basinmug.LineStyle.TheVariants.{Empty}
use Rattle.basinmug_run.specs.declared.options.ColumnsShown.{ColumnsShown}
use Rattle.basinmug_run.specs.declared.options.ColumnsShown.TheVariants.{All as AllColumns, Fitting}
use Rattle.basinmug_run.specs.declared.options.Options.{Options}
use Rattle.basinmug_run.specs.Picture.Names.{missing_names, text_if_missing}
use Rattle.basinmug_run.specs.Picture.Pictures.{narrowed_to, needs_in}
use Rattle.basinmug_run.specs.Picture.Rows.{header_of}

-- ---- columns that are chosen

-- a number as the name of a column, where it is past the last of so many
abbrev pub past_last : ℕ → ℕ → List (List ℕ)
past_last count number = if nat_lt number count then [] else decimal number ∷ []

-- the columns from one number to another, both of them too
abbrev pub columns_through : Option (ℕ × ℕ) → List ShownColumn
columns_through None = []
columns_through (Some ends) = numbered ends.0 (ends.1 + 1 - ends.0)

-- where names denote these numbers
module _ (number_of : ColumnName → Option ℕ) where
  -- the first and the last column of a choice
  abbrev pub ends_of : ColumnChoice → Option (ℕ × ℕ)
  ends_of (One name) = option_map (λ number. (number, number)) (number_of name)
  ends_of (Range first last) = Some (first, last)

  -- the columns that are chosen, in turn
  abbrev pub chosen_columns : List ColumnChoice → List ShownColumn
  chosen_columns choices = flat_map (λ choice. columns_through (ends_of choice)) choices

  -- a name that denotes none of so many columns
  abbrev pub missing_name : ℕ → ColumnName → List (List ℕ)
  missing_name count (ByNumber number) = past_last count number
  missing_name count (Header name) = text_if_missing (number_of (Header name)) (Header name)

  -- the name of a column that a choice requests and that none of so many has
  abbrev pub missing_choice : ℕ → ColumnChoice → List (List ℕ)
  missing_choice count (One name) = missing_name count name
  missing_choice count (Range first last) = past_last count last

  abbrev pub missing_choices : ℕ → List ColumnChoice → List (List ℕ)
  missing_choices count choices = flat_map (missing_choice count) choices

-- ---- rows

-- the field of a row in a column that is shown: one that the row lacks is the empty text, and an ellipsis is in
-- place of what is left out
abbrev pub shown_field : List (List ℕ) → ShownColumn → List ℕ
shown_field row (Number number) = slice_index_or row number []
shown_field row LeftOut = ellipsis

-- the number of a column that is shown, and none of those that are left out
abbrev pub number_if_shown : ShownColumn → Option ℕ
number_if_shown (Number number) = Some number
number_if_shown LeftOut = None

-- these columns of a row
abbrev pub shown_row : List ShownColumn → List (List ℕ) → List (List ℕ)
shown_row columns row = map (shown_field row) columns

-- and of rows
abbrev pub with_columns : List ShownColumn → List (List (List ℕ)) → List (List (List ℕ))
with_columns columns rows = map (shown_row columns) rows

-- whether no columns are chosen
abbrev pub are_none : List ColumnChoice → Bool
are_none [] = true
are_none (choice ∷ choices) = false

-- all columns where none are chosen, and else these
abbrev pub rows_with : List ColumnChoice → List ShownColumn → List (List (List ℕ)) → List (List (List ℕ))
rows_with [] columns rows = rows
rows_with (choice ∷ choices) columns rows = with_columns columns rows

-- ---- what is requested of columns

abbrev pub is_number : Option ℕ → ℕ → Bool
is_number None column = false
is_number (Some number) column = nat_eq number column

-- the last value that is given for a column of the input
abbrev pub last_for : {X : Type 0} → List (Option ℕ × X) → ℕ → Option X
last_for [] column = None
last_for (given ∷ others) column = option_or (last_for others column) (if is_number given.0 column then Some given.1 else None)

-- a value that is requested of the column at a place, if there is one
abbrev pub asked_at : {X : Type 0} → ℕ → Option X → List (ColumnName × X)
asked_at place None = []
asked_at place (Some value) = (ByNumber place, value) ∷ []

-- the value of a column that is shown
abbrev pub value_at : {X : Type 0} → (ℕ → Option X) → ShownColumn → Option X
value_at value_of (Number number) = value_of number
value_at value_of LeftOut = None

-- for each of these columns of the input, by its place among them, the value of it
abbrev pub placed : {X : Type 0} → List ShownColumn → (ℕ → Option X) → List (ColumnName × X)
placed columns value_of = flat_map (λ place. asked_at place (value_at value_of (slice_index_or columns place LeftOut))) (range_with_len 0 (length columns))

-- the value of a column, by what is found for numbers
abbrev pub value_in : {X S : Type 0} → HashMap ℕ (Bor X) S → ℕ → Option X
value_in values column = option_map (λ value. value.now) (get nat_eq values column)

-- what is given for the columns that names denote
abbrev pub given_for : {X : Type 0} → (ColumnName → Option ℕ) → List (ColumnName × X) → List (Option ℕ × X)
given_for number_of pairs = map (λ pair. (number_of pair.0, pair.1)) pairs

-- whether a column is one of the input
abbrev pub is_of_input : ShownColumn → Bool
is_of_input (Number number) = true
is_of_input LeftOut = false

-- what is requested of the table of some columns: the same, but of its own columns, by their places
pub record AreOfValues (options : Options) (shown : List ShownColumn) (alignment_of : ℕ → Option AlignmentHorizontal) (color_of : ℕ → Option CellColor) (own : Options) : Type 0 where
  pub line_style : own.line_style ≡ options.line_style
  pub header : own.header ≡ options.header
  pub escapes : own.escapes ≡ options.escapes
  pub rules : own.rules ≡ options.rules
  pub width : own.width ≡ options.width
  pub truncate : own.truncate ≡ options.truncate
  pub priority : own.priority ≡ options.priority
  pub columns : own.columns.items ≡ []
  pub columns_shown : own.columns_shown ≡ options.columns_shown
  pub alignments : own.alignments.items ≡ placed shown alignment_of
  pub colors : own.colors.items ≡ placed shown color_of
  pub expanded : own.expanded ≡ options.expanded
  pub max_rows : own.max_rows ≡ options.max_rows
  pub tail : own.tail ≡ options.tail

-- ---- the columns of a table

-- whether a style has lines between columns
abbrev pub is_lined : LineStyle → Bool
is_lined Empty = false
is_lined _ = true

-- the width in which columns are to fit, of a table that has this one or none
abbrev pub fitting_in : ColumnsShown → Option ℕ → Option ℕ
fitting_in AllColumns width = None
fitting_in Fitting width = width

abbrev pub fitting_width : Options → Option ℕ
fitting_width options = fitting_in options.columns_shown (narrowed_to options)

-- where these rows are shown
module _ (options : Options) (rows : List (List (List ℕ))) where
  -- the columns that their table may have, where these are chosen: those of the rows, where none are
  abbrev pub wanted_columns : List ShownColumn → List ShownColumn
  wanted_columns chosen = if are_none options.columns.items then numbered 0 (longest rows) else chosen

  -- those of some columns that fit, by what they need in these rows
  abbrev pub fitting_of : Option ℕ → List ShownColumn → List ShownColumn
  fitting_of None columns = columns
  fitting_of (Some width) columns = columns_that_fit (needs_in options.header rows) (is_lined options.line_style) width columns

  -- the columns that their table has
  abbrev pub columns_of_table : List ShownColumn → List ShownColumn
  columns_of_table chosen = fitting_of (fitting_width options) (wanted_columns chosen)

  -- whether all columns are shown as they are: none are chosen, and none is left out
  abbrev pub shows_whole_rows : Bool
  shows_whole_rows = are_none options.columns.items && (count_by is_of_input (columns_of_table []) == length (wanted_columns []))

  -- the numbers that names denote, by the header
  abbrev pub number_in : ColumnName → Option ℕ
  number_in = column_number (header_of options.header rows)

  -- the columns that are chosen
  abbrev pub columns_in : List ShownColumn
  columns_in = chosen_columns number_in options.columns.items

  -- the columns of the table
  abbrev pub table_columns : List ShownColumn
  table_columns = columns_of_table columns_in

  -- how many columns it has without those that are left out, and with them
  abbrev pub column_counts : ℕ × ℕ
  column_counts = (count_by is_of_input table_columns, length (wanted_columns columns_in))

  -- what is requested of the table of these columns of the rows
  abbrev pub AreOfColumns : List ShownColumn → Options → Type 0
  AreOfColumns shown = AreOfValues options shown (last_for (given_for number_in options.alignments.items)) (last_for (given_for number_in options.colors.items))

  -- the rows as they are shown one below the other: of all their columns, or of those that are chosen
  abbrev pub own_rows : List (List (List ℕ))
  own_rows = rows_with options.columns.items columns_in rows

-- ---- names that are missing

-- the names of columns in the options that a header and so many columns do not have, in turn
abbrev pub missing_of_columns : Options → ℕ → List (List (List ℕ)) → List (List ℕ)
missing_of_columns options count rows =
    let header = header_of options.header rows in
    missing_choices (column_number header) count options.columns.items ++ (missing_names header options.alignments.items ++ missing_names header options.colors.items)

-- those that the input does not have
abbrev pub missing_in : Options → List (List (List ℕ)) → List (List ℕ)
missing_in options rows = missing_of_columns options (longest rows) rows
