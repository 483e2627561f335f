-- Columns by what they are called: by their number, or by the text in the header.
use Rattle.std.specs.Prelude.{ℕ, nat_eq, Bool, List, Option, Some, string_bytes}
use Rattle.std.specs.BTreeMap.{get_by_text}
use Rattle.std.specs.List.{position_from}
use Rattle.std.specs.Cmp.Lexicographic.{pointwise}
use Rattle.ansi_scan.specs.Pieces.{pieces}
use Rattle.ansi_str.specs.StyledText.{strip}
use Rattle.basinmug_columns.specs.declared.names.NamedColumns.{NamedColumns}
use Rattle.program_options.specs.declared.basinmug.ColumnName.{ColumnName}
use Rattle.program_options.specs.declared.basinmug.ColumnName.TheVariants.{Number, Header}

-- whether a text, without its sequences, is this one
abbrev pub shows : List ℕ → List ℕ → Bool
shows name text = pointwise nat_eq (strip (pieces text)) name

-- the first column whose text in the header is the name
abbrev pub column_number : List (List ℕ) → ColumnName → Option ℕ
column_number header (Number number) = Some number
column_number header (Header name) = position_from (shows (string_bytes name)) 0 header

-- the column of a name, by the first columns of their texts
abbrev pub number_of : NamedColumns → ColumnName → Option ℕ
number_of columns (Number number) = Some number
number_of columns (Header name) = get_by_text columns.first (string_bytes name)
