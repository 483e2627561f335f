-- A table in a Markdown document (GitHub Flavored Markdown, "Tables"): the first row is its header, and the second, the
-- delimiter row, says how the texts of each column are aligned. Neither may lack. A text is the list of its bytes.
use Rattle.std.specs.Prelude.{ℕ, ◌-◌, max, Bool, List, [], ◌∷◌, ◌++◌, codes, length, replicate, slice_index_or, if◌then◌else◌}
use Rattle.std.specs.List.{flat_map, range_with_len}
use Rattle.grid_config_values.specs.declared.alignment.AlignmentHorizontal.{AlignmentHorizontal}
use Rattle.grid_config_values.specs.declared.alignment.AlignmentHorizontal.TheVariants.{Left, Center, Right}

-- ---- the header

-- where rows have no header of their own, an empty row is before them; no rows are no table
abbrev pub with_header : Bool → List (List (List ℕ)) → List (List (List ℕ))
with_header has_header [] = []
with_header has_header (row ∷ rows) = if has_header then row ∷ rows else [] ∷ row ∷ rows

-- ---- the delimiter row

-- so many hyphens, at least one
abbrev pub hyphens : ℕ → List ℕ
hyphens count = replicate (max 1 count) 0x2d

-- the mark of a column that is so wide: `:---` at the left, `:---:` in the middle, `---:` at the right
abbrev pub column_mark : AlignmentHorizontal → ℕ → List ℕ
column_mark Left width = codes ":" ++ hyphens (width - 1)
column_mark Center width = codes ":" ++ hyphens (width - 2) ++ codes ":"
column_mark Right width = hyphens (width - 1) ++ codes ":"

-- the mark of a column, and the bar after it; a column that no alignment is given for is at the left
abbrev pub column_mark_of : List AlignmentHorizontal → List ℕ → ℕ → List ℕ
column_mark_of alignments widths column = column_mark (slice_index_or alignments column Left) (slice_index_or widths column 0) ++ codes "|"

-- the delimiters of columns of these widths between bars, and a line feed; no columns have none
abbrev pub delimiter_row : List AlignmentHorizontal → List ℕ → List ℕ
delimiter_row alignments [] = []
delimiter_row alignments (width ∷ widths) =
    codes "|" ++ flat_map (column_mark_of alignments (width ∷ widths)) (range_with_len 0 (length (width ∷ widths))) ++ codes "\n"
