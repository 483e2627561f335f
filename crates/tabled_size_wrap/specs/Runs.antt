-- The runs as a function of the units, and the text that is wrapped: one that meets the relations of
-- `FittingRuns` and `Wrapping`.
use Rattle.std.specs.Prelude.{ℕ, zero, suc, ◌+◌, nat_le, nat_lt, Bool, List, [], ◌∷◌, flat_map, chars, if◌then◌else◌}
use Rattle.std.specs.List.{join_with_byte, onto_first}
use Rattle.ansi_scan.specs.Sequences.{Piece}
use Rattle.ansi_scan.specs.Pieces.{pieces as pieces_of}
use Rattle.ansi_str.specs.StyledText.{strip}
use Rattle.grid_records_measure.specs.TextLines.{line_feed}
use Rattle.tabled_size_wrap.specs.Units.{LineUnit, line_units, unit_len}
use Rattle.tabled_size_wrap.specs.Wrapping.{line_part, lines_of_runs, replacement_bytes}

-- a unit of this cost fits on a line that has taken `used` columns. One that costs more than the
-- width does where a column is left
abbrev pub has_room_for : ℕ → ℕ → ℕ → Bool
has_room_for width used cost = if nat_le cost width then nat_le (used + cost) width else nat_lt used width

-- a run that has taken `used` columns takes the unit too
abbrev pub takes_unit : ℕ → ℕ → LineUnit → Bool
takes_unit width used unit = has_room_for width used unit.cost

-- the columns that are taken after it; a unit that costs more than the width takes all that are left
abbrev pub used_with_unit : ℕ → ℕ → LineUnit → ℕ
used_with_unit width used unit = if nat_le unit.cost width then used + unit.cost else width

-- the runs, where the first has taken `used` columns already
abbrev pub runs_from : ℕ → ℕ → List LineUnit → List (List LineUnit)
runs_from width used [] = [] ∷ []
runs_from width used (unit ∷ units) =
    if takes_unit width used unit then onto_first unit (runs_from width (used_with_unit width used unit) units)
    else [] ∷ onto_first unit (runs_from width (used_with_unit width 0 unit) units)

abbrev pub runs_of : ℕ → List LineUnit → List (List LineUnit)
runs_of width units = runs_from width 0 units

-- the lines that a line is wrapped into
abbrev pub wrapped_lines : ℕ → Bool → List Piece → List (List ℕ)
wrapped_lines width keep_words pieces =
    lines_of_runs unit_len (line_part pieces) replacement_bytes width 0 (runs_of width (line_units width keep_words (chars (strip pieces))))

-- lines wrapped at a width
abbrev pub wrapped : ℕ → Bool → List (List ℕ) → List ℕ
wrapped zero keep_words lines = []
wrapped (suc n) keep_words lines =
    join_with_byte line_feed (flat_map (λ line. wrapped_lines (suc n) keep_words (pieces_of line)) lines)
