-- A table in a document (GitHub Flavored Markdown, "Tables"): its header, the delimiter row below it, and its records.
use Rattle.std.specs.Prelude.{ℕ, ◌==◌, nat_lt, Bool, false, List, ◌++◌, map}
use Rattle.std.specs.List.{range_with_len}
use Rattle.grid_config_values.specs.declared.alignment.AlignmentHorizontal.{AlignmentHorizontal}
use Rattle.papergrid_picture.specs.Picture.{at}
use Rattle.papergrid_print.specs.declared.choice.LineKind.{LineKind}
use Rattle.papergrid_print.specs.declared.choice.LineKind.TheVariants.{Boundary, Row, InMargin}
use Rattle.tabled.specs.Printing.{drawn_widths}
use Rattle.tabled.specs.Writing.{chosen_lines}
use Rattle.tabled_steps.specs.States.{State, column_count}
use Rattle.basinmug_columns.specs.Markdown.Documents.{delimiter_row}
use Rattle.basinmug_run.specs.declared.picture.documents.DocumentPart.{DocumentPart}
use Rattle.basinmug_run.specs.declared.picture.documents.DocumentPart.TheVariants.{Header, Records}

-- whether a line is one of this part: the first row is the header, and the others are the records
abbrev pub is_of : DocumentPart → LineKind → Bool
is_of part (Boundary boundary) = false
is_of Header (Row row) = row == 0
is_of Records (Row row) = nat_lt 0 row
is_of part InMargin = false

-- whether it is the header's, and whether it is one of the records'
abbrev pub is_header_line : LineKind → Bool
is_header_line = is_of Header

abbrev pub is_record_line : LineKind → Bool
is_record_line = is_of Records

-- how the header's texts are aligned, column by column
abbrev pub header_alignments : State → List AlignmentHorizontal
header_alignments s = map (λ column. s.look.alignment_horizontal (at 0 column)) (range_with_len 0 (column_count s.rows))

-- the delimiter row below the header: how the texts of each column are aligned, for the widths that are drawn
abbrev pub header_delimiters : State → List ℕ
header_delimiters s = delimiter_row (header_alignments s) (drawn_widths s)

-- the delimiter row, the lines of the records, and then a text
abbrev pub below_header : List ℕ → State → List ℕ
below_header more s = header_delimiters s ++ (chosen_lines (is_of Records) s ++ more)

-- the lines of the header, and what is below it
abbrev pub document_text : List ℕ → State → List ℕ
document_text more s = chosen_lines (is_of Header) s ++ below_header more s
