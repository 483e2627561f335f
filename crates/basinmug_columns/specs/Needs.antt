-- What a column needs to be readable, in columns of the terminal.
use Rattle.std.specs.Prelude.{ℕ, ◌+◌, ◌-◌, max, min, Bool, false, List, [], ◌∷◌, drop, if◌then◌else◌, length, map, slice_index_or, take}
use Rattle.std.specs.List.{prefix_len, range_with_len, suffix_len}
use Rattle.std.specs.Char.{is_ascii_whitespace}
use Rattle.ansi_scan.specs.Pieces.{pieces}
use Rattle.ansi_str.specs.StyledText.{strip}
use Rattle.grid_records_measure.specs.TextLines.{text_width}
use Rattle.basinmug_columns.specs.Numbers.Columns.{cell}
use Rattle.basinmug_columns.specs.declared.rooms.Need.{Need}

-- what a column of text needs at most, and what a column of numbers does
abbrev pub usual_width : ℕ
usual_width = 8

abbrev pub number_width : ℕ
number_width = 24

-- a padding at each side
abbrev pub paddings : ℕ
paddings = 2

-- the widest line of some rows in a column; 0 where there are no rows
abbrev pub widest_in : ℕ → List (List (List ℕ)) → ℕ
widest_in column [] = 0
widest_in column (row ∷ rows) = max (text_width (cell column row)) (widest_in column rows)

-- a text without the white space of ASCII at its start and at its end
abbrev pub without_blanks : List ℕ → List ℕ
without_blanks text =
    let rest = drop (prefix_len is_ascii_whitespace text) text in
    take (length rest - suffix_len is_ascii_whitespace rest) rest

-- what a cell shows, without these blanks: a line is wrapped at them, and one of blanks alone is left out
abbrev pub unpadded : List ℕ → List ℕ
unpadded text = without_blanks (strip (pieces text))

-- the widest of what cells show so in a column; 0 where there are no rows
abbrev pub widest_number : ℕ → List (List (List ℕ)) → ℕ
widest_number column [] = 0
widest_number column (row ∷ rows) = max (text_width (unpadded (cell column row))) (widest_number column rows)

-- the smaller of 8 and the widest line; a column of numbers needs its widest number, where that is more, but at most 24
abbrev pub needed_text : Bool → ℕ → ℕ → ℕ
needed_text is_numeric widest number = if is_numeric then min number_width (max (min usual_width widest) number) else min usual_width widest

-- what a column of a header and records needs
abbrev pub need_of : List (List ℕ) → List (List (List ℕ)) → List Bool → ℕ → Need
need_of header records numeric column =
    let is_numeric = slice_index_or numeric column false in
    let widest = max (text_width (cell column header)) (widest_in column records) in
    record { is_numeric = is_numeric; width = needed_text is_numeric widest (widest_number column records) + paddings }

-- the same of each column
abbrev pub needs_of : List (List ℕ) → List (List (List ℕ)) → List Bool → List Need
needs_of header records numeric = map (need_of header records numeric) (range_with_len 0 (length numeric))
