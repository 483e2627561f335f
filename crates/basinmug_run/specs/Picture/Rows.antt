-- The rows of a picture: a header, and records.
use Rattle.std.specs.Prelude.{ℕ, ◌+◌, Bool, true, false, List, [], ◌∷◌, drop, if◌then◌else◌, insert, map, replicate}
use Rattle.tabled_text.specs.Rows.{longest}
use Rattle.basinmug_columns.specs.Fitting.Fitting.{ellipsis}
use Rattle.basinmug_columns.specs.declared.rows.RowsShown.{RowsShown}
use Rattle.basinmug_columns.specs.declared.rows.RowsShown.TheVariants.{All, More, Earlier, Between}
use Rattle.basinmug_columns.specs.Markdown.Documents.{with_header}
use Rattle.basinmug_columns.specs.Markdown.Escapes.{in_markdown}
use Rattle.program_options.specs.declared.basinmug.LineStyle.{LineStyle}
use Rattle.program_options.specs.declared.basinmug.LineStyle.TheVariants.{Markdown}

-- whether a style of lines is that of a table in a document
abbrev pub is_markdown : LineStyle → Bool
is_markdown Markdown = true
is_markdown _ = false

-- how many rows the header takes
abbrev pub header_rows : Bool → ℕ
header_rows header = if header then 1 else 0

-- the texts of the header
abbrev pub header_of : Bool → List (List (List ℕ)) → List (List ℕ)
header_of false rows = []
header_of true [] = []
header_of true (row ∷ rows) = row

-- the rows below it
abbrev pub records_of : Bool → List (List (List ℕ)) → List (List (List ℕ))
records_of header rows = drop (header_rows header) rows

-- a row of ellipses, one for each column of some rows
abbrev pub mark_row : List (List (List ℕ)) → List (List ℕ)
mark_row rows = replicate (longest rows) ellipsis

-- the rows that are shown, and where others are left out between them, a row of ellipses in their place: after the header
-- and the first records
abbrev pub marked_rows : Bool → RowsShown → List (List (List ℕ)) → List (List (List ℕ))
marked_rows header All rows = rows
marked_rows header (More count) rows = rows
marked_rows header (Earlier count) rows = rows
marked_rows header (Between first count) rows = insert rows (first + header_rows header) (mark_row rows)

-- the rows as cells of a table, which have a header of their own or none: those of a document are escaped, and get one
abbrev pub cells_of : LineStyle → Bool → RowsShown → List (List (List ℕ)) → List (List (List ℕ))
cells_of line_style header shown rows =
    let marked = marked_rows header shown rows in
    if is_markdown line_style then with_header header (map (map in_markdown) marked) else marked
