-- Which lines of a picture are printed, and what is below them.
use Rattle.std.specs.Prelude.{ℕ, ◌==◌, ◌&&◌, ◌||◌, nat_le, nat_lt, Bool, true, false, List, [], ◌++◌, Option, None, Some, codes, decimal, if◌then◌else◌}
use Rattle.papergrid_print.specs.declared.choice.LineKind.{LineKind}
use Rattle.papergrid_print.specs.declared.choice.LineKind.TheVariants.{Boundary, Row, InMargin}
use Rattle.tabled.specs.Writing.{chosen_lines}
use Rattle.tabled_steps.specs.States.{State}
use Rattle.basinmug_columns.specs.Rows.{left_out_of, rows_line}
use Rattle.basinmug_columns.specs.declared.rows.RowsShown.{RowsShown}
use Rattle.program_options.specs.declared.basinmug.LineStyle.{LineStyle}
use Rattle.program_options.specs.declared.basinmug.Rules.{Rules}
use Rattle.program_options.specs.declared.basinmug.Rules.TheVariants.{Header, All, None as NoRules}
use Rattle.basinmug_run.specs.Picture.Documents.{document_text}
use Rattle.basinmug_run.specs.Picture.Rows.{is_markdown}

-- whether the line between rows of this number is printed
abbrev pub is_inner_chosen : Rules → Bool → ℕ → Bool
is_inner_chosen Header header boundary = header && boundary == 1
is_inner_chosen All header boundary = true
is_inner_chosen NoRules header boundary = false

-- the rows, and the lines above the first and below the last of so many rows; of the lines between them those that
-- are requested
abbrev pub is_chosen : Rules → Bool → ℕ → LineKind → Bool
is_chosen rules header rows (Boundary boundary) = boundary == 0 || boundary == rows || is_inner_chosen rules header boundary
is_chosen rules header rows (Row row) = true
is_chosen rules header rows InMargin = true

-- the blank line of a document before the line that says how many rows are left out: without it that would be a row of
-- the table
abbrev pub blank_line : LineStyle → ℕ → List ℕ
blank_line line_style count = if is_markdown line_style && nat_lt 0 count then codes "\n" else []

-- the line that says how many of the columns are shown, where some are left out; a document has all
abbrev pub columns_line : LineStyle → Option (ℕ × ℕ) → List ℕ
columns_line line_style None = []
columns_line line_style (Some (shown, all)) =
    if is_markdown line_style || nat_le all shown then []
    else codes "(" ++ (decimal shown ++ (codes " of " ++ (decimal all ++ codes " columns)\n")))

-- what is below a table of this style, of which so many columns are shown of so many, and these rows
abbrev pub below : LineStyle → Option (ℕ × ℕ) → RowsShown → List ℕ
below line_style columns rows = blank_line line_style (left_out_of rows) ++ (columns_line line_style columns ++ rows_line (codes "row") rows)

-- the lines of a table of so many rows that are chosen, and then a text
abbrev pub lines_text : Rules → Bool → ℕ → List ℕ → State → List ℕ
lines_text rules header rows more s = chosen_lines (is_chosen rules header rows) s ++ more

-- what is printed of a table in this style, and then a text
abbrev pub picture_text : LineStyle → Rules → Bool → ℕ → List ℕ → State → List ℕ
picture_text line_style rules header rows more s = if is_markdown line_style then document_text more s else lines_text rules header rows more s
