-- The lines of a cell that are shown, with the trims of the cell.
use Rattle.std.specs.Prelude.{ℕ, ◌-◌, ◌==◌, Bool, true, false, List, map, length, take, drop, if◌then◌else◌}
use Rattle.std.specs.List.{prefix_len, suffix_len}
use Rattle.std.specs.Str.{trim}
use Rattle.ansi_scan.specs.Pieces.{pieces}
use Rattle.grid_records_measure.specs.TextLines.{line_measure, shown_lines, text_lines}
use Rattle.grid_records_measure.specs.Trimming.{trimmed}

-- a line without its sequences that holds nothing but white space (Unicode, White_Space)
abbrev pub is_blank : List ℕ → Bool
is_blank line = length (trim line) == 0

-- which lines of a text are kept: the number of the first, and their count
abbrev pub Kept : Type 0
Kept = ℕ × ℕ

abbrev pub first_kept : Kept → ℕ
first_kept kept = kept.0

abbrev pub count_kept : Kept → ℕ
count_kept kept = kept.1

-- with a vertical trim, those from the first line to the last that isn't blank; else all
abbrev pub kept_lines : Bool → List (List ℕ) → Kept
kept_lines false lines = (0, length lines)
kept_lines true lines =
    let blank_above = prefix_len is_blank lines in
    let from_first = drop blank_above lines in
    (blank_above, length from_first - suffix_len is_blank from_first)

-- the lines that are kept
abbrev pub those : {X : Type 0} → Kept → List X → List X
those kept lines = take (count_kept kept) (drop (first_kept kept) lines)

module _ (trim_horizontal trim_vertical : Bool) (text : List ℕ) where
  -- which of its lines the cell keeps
  abbrev pub kept : Kept
  kept = kept_lines trim_vertical (shown_lines (pieces text))

  -- the lines that the cell shows: each opens and ends its own styles, and with a horizontal trim has no white space at
  -- its ends
  abbrev pub cell_lines : List (List ℕ)
  cell_lines = map (λ line. if trim_horizontal then trimmed line else line) (those kept (text_lines text))

  -- what they measure: their texts without sequences
  abbrev pub cell_measures : List ℕ
  cell_measures = map (λ line. line_measure (if trim_horizontal then trim line else line)) (those kept (shown_lines (pieces text)))
