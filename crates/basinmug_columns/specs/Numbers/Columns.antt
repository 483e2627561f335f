-- Which columns of a table are of numbers, by what their cells show.
use Rattle.std.specs.Prelude.{ℕ, ◌==◌, ◌&&◌, not, Bool, true, false, List, [], length, slice_index_or, if◌then◌else◌}
use Rattle.std.specs.List.{list_all, list_any}
use Rattle.std.specs.Str.{trim}
use Rattle.ansi_scan.specs.Pieces.{pieces}
use Rattle.ansi_str.specs.StyledText.{strip}
use Rattle.basinmug_columns.specs.Numbers.Numbers.{is_number}
use Rattle.basinmug_columns.specs.declared.numbers.columns.Content.{Content}
use Rattle.basinmug_columns.specs.declared.numbers.columns.Content.TheVariants.{Blank, Number, Text}

-- what a text shows, without the white space around it
abbrev pub content : List ℕ → List ℕ
content text = trim (strip (pieces text))

-- a number, nothing, or else a text
abbrev pub content_kind : List ℕ → Content
content_kind bytes = if is_number bytes then Number else if length bytes == 0 then Blank else Text

abbrev pub is_text : Content → Bool
is_text Text = true
is_text Blank = false
is_text Number = false

abbrev pub is_a_number : Content → Bool
is_a_number Number = true
is_a_number Blank = false
is_a_number Text = false

-- the cell of a row in a column; an empty one where the row is shorter
abbrev pub cell : ℕ → List (List ℕ) → List ℕ
cell column row = slice_index_or row column []

abbrev pub kind_of_cell : ℕ → List (List ℕ) → Content
kind_of_cell column row = content_kind (content (cell column row))

-- no cell of the column is a text, and one is a number
abbrev pub is_numeric : List (List (List ℕ)) → ℕ → Bool
is_numeric records column = list_all (λ row. not (is_text (kind_of_cell column row))) records && list_any (λ row. is_a_number (kind_of_cell column row)) records
