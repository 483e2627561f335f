-- A text that is wrapped: the lines that its lines are wrapped into, with their styles.
use Rattle.std.specs.Prelude.{◌≡◌, ℕ, zero, suc, ◌+◌, ◌-◌, ◌==◌, ◌&&◌, nat_le, nat_lt, Bool, List, [], ◌∷◌, ◌++◌, length, take, drop, flat_map, chars, encode_utf8_all, if◌then◌else◌}
use Rattle.std.specs.List.{AllZip, join_with_byte, prefix_len, repeat, sum_by}
use Rattle.ansi_scan.specs.Sequences.{Piece}
use Rattle.ansi_scan.specs.Pieces.{pieces as pieces_of}
use Rattle.ansi_str.specs.StyledText.{strip}
use Rattle.ansi_str.specs.Cuts.{cut_part, later_part}
use Rattle.grid_records_measure.specs.Cutting.{replacement}
use Rattle.grid_records_measure.specs.TextLines.{AreLinesOf, line_feed}
use Rattle.tabled_size_wrap.specs.Units.{LineUnit, line_units, unit_len}
use Rattle.tabled_size_wrap.specs.FittingRuns.{AreRunsOf, run_cost}

-- ---- what a run shows: a unit takes `len unit` places, and `part a b` is what the line shows from place a to place b.
-- A unit that costs more than the width has `mark` in each column that it takes

abbrev pub unit_fits : ℕ → LineUnit → Bool
unit_fits width unit = nat_le unit.cost width

-- the units before the first that costs more than the width, and those from it on
abbrev pub before_wide : ℕ → List LineUnit → List LineUnit
before_wide width run = take (prefix_len (unit_fits width) run) run

abbrev pub from_wide : ℕ → List LineUnit → List LineUnit
from_wide width run = drop (prefix_len (unit_fits width) run) run

-- units that fit, and those from a wide one on, which begin here. They show the part of the first; the columns that
-- these leave, marked in the place of the wide one; and the part of what comes after it
abbrev pub shown_run : {X : Type 0} → (LineUnit → ℕ) → (ℕ → ℕ → List X) → List X → ℕ → ℕ → List LineUnit → List LineUnit → List X
shown_run len part mark width place front [] = part place (place + sum_by len front)
shown_run len part mark width place front (wide ∷ behind) =
    let from = place + sum_by len front in
    let to = from + len wide in
    part place from ++ (repeat (width - run_cost front) mark ++ part to (to + sum_by len behind))

-- the lines of runs one after another, where the first begins here
abbrev pub lines_of_runs : {X : Type 0} → (LineUnit → ℕ) → (ℕ → ℕ → List X) → List X → ℕ → ℕ → List (List LineUnit) → List (List X)
lines_of_runs len part mark width place [] = []
lines_of_runs len part mark width place (run ∷ runs) =
    shown_run len part mark width place (before_wide width run) (from_wide width run)
    ∷ lines_of_runs len part mark width (place + sum_by len run) runs

-- ---- in bytes

abbrev pub run_len : List LineUnit → ℕ
run_len run = sum_by unit_len run

-- the part of a line from one place to another, of a split at places. Where the line has text no part is without: a
-- place at its start or its end is none
abbrev pub line_part : List Piece → ℕ → ℕ → List ℕ
line_part pieces a b =
    if a == b && nat_lt 0 (length (strip pieces)) then []
    else if a == 0 then cut_part 0 b pieces
    else later_part a b pieces

-- U+FFFD REPLACEMENT CHARACTER, without style
abbrev pub replacement_bytes : List ℕ
replacement_bytes = encode_utf8_all (replacement ∷ [])

-- the lines that a line is wrapped into at a width of at least 1
abbrev pub AreWrappedLines : ℕ → Bool → List Piece → List (List ℕ) → Type 0
AreWrappedLines width keep_words pieces lines =
    (runs : List (List LineUnit)) × AreRunsOf width (line_units width keep_words (chars (strip pieces))) runs
    × (lines ≡ lines_of_runs unit_len (line_part pieces) replacement_bytes width 0 runs)

-- a text wrapped at a width: nothing at 0; else each of its lines is wrapped by itself
abbrev pub IsWrapped : ℕ → Bool → List Piece → List ℕ → Type 0
IsWrapped zero keep_words pieces bytes = bytes ≡ []
IsWrapped (suc n) keep_words pieces bytes =
    (lines : List (List ℕ)) × (of_lines : List (List (List ℕ))) × AreLinesOf pieces lines
    × AllZip (λ line others. AreWrappedLines (suc n) keep_words (pieces_of line) others) lines of_lines
    × (bytes ≡ join_with_byte line_feed (flat_map (λ others. others) of_lines))
