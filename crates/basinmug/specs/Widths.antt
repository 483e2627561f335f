-- How wide a table may be, by the arguments and by the environment.
use Rattle.std.specs.Prelude.{◌≡◌, ◌==◌, ⊤, ℕ, Bool, true, false, List, Option, None, Some, if◌then◌else◌}
use Rattle.command_line.specs.declared.basinmug.words.WidthAsked.{WidthAsked}
use Rattle.command_line.specs.declared.basinmug.words.WidthAsked.TheVariants.{None as AnyWidth, Columns, Environment}
use Rattle.program_options.specs.ColorList.Listed.{column_of}
use Rattle.basinmug_run.specs.declared.options.ColumnsShown.{ColumnsShown}
use Rattle.basinmug_run.specs.declared.options.ColumnsShown.TheVariants.{All as AllColumns, Fitting}

abbrev pub unless_zero : Option ℕ → Option ℕ
unless_zero None = None
unless_zero (Some columns) = if columns == 0 then None else Some columns

-- by the text of `COLUMNS`: decimal digits above 0, at most 4294967295; any other text requests no width
abbrev pub columns_in : List ℕ → Option ℕ
columns_in text = unless_zero (column_of text)

-- the width that the arguments request; of the environment nothing is known here
abbrev pub IsWidthFor : WidthAsked → Option ℕ → Type 0
IsWidthFor AnyWidth width = width ≡ None
IsWidthFor (Columns columns) width = width ≡ Some columns
IsWidthFor Environment width = ⊤

-- which columns a table has: all, where that is requested, or where the environment says how wide it is and the output is no terminal,
-- so that a file or a pipe loses none; else those that fit
abbrev pub columns_shown : Bool → WidthAsked → Bool → ColumnsShown
columns_shown true width is_terminal = AllColumns
columns_shown false Environment is_terminal = if is_terminal then Fitting else AllColumns
columns_shown false AnyWidth is_terminal = Fitting
columns_shown false (Columns columns) is_terminal = Fitting
