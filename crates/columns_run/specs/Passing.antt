-- What a pass over the bytes of a text knows before one of them.
use Rattle.std.specs.Prelude.{◌≡◌, ◌≢◌, ◌≤◌, ◌<◌, ◌+◌, ◌==◌, ◌∷◌, ◌++◌, ℕ, Bool, true, cond, drop, if◌then◌else◌, length, List, [], map, slice_index, slice_range, sum}
use Rattle.std.specs.Str.{IsCharBoundary}
use Rattle.ansi_scan.specs.Sequences.{escape}
use Rattle.columns_table.specs.Ends.{AreCellEnds, cells_in, start_behind}
use Rattle.columns_table.specs.RowEnds.{EndedRows}
use Rattle.columns_table.specs.Rows.{split_by_lengths}
use Rattle.columns_table.specs.declared.ends.CellEnd.{CellEnd}
use Rattle.columns_run.specs.Cells.{Line, byte_line, line_of_cell}
use Rattle.columns_run.specs.Rows.{line_feed, rows_of, tab}
use Rattle.grid_records_measure.specs.Measures.{are_printable}

-- the rows that are still to come, where `front` are the cells of the present row so far and `cell` are the bytes of
-- the present cell so far
abbrev pub rows_from : {Y : Type 0} → (List ℕ → Y) → List Y → List ℕ → List ℕ → List (List Y)
rows_from f front cell [] = if length front + length cell == 0 then [] else (front ++ f cell ∷ []) ∷ []
rows_from f front cell (b ∷ bs) = cond (b == line_feed) ((front ++ f cell ∷ []) ∷ rows_from f [] [] bs) (cond (b == tab) (rows_from f (front ++ f cell ∷ []) [] bs) (rows_from f front (cell ++ b ∷ []) bs))

-- the rows that are known after part of the pass: those that have ended and those to come
abbrev pub rows_with : {Y : Type 0} → (List ℕ → Y) → List ℕ → List Y → List ℕ → List ℕ → List (List Y)
rows_with f counts cells cell bytes = split_by_lengths counts cells ++ rows_from f (drop (sum counts) cells) cell bytes

-- before the byte at `end`: the present cell begins at `start`, and `count` cells of the present row are before it;
-- `plain` where its bytes are printable; the rows that have ended have `counts` cells, and `lines` are all cells so far
pub record Pass (text : List ℕ) (end start count : ℕ) (plain : Bool) (counts : List ℕ) (lines : List (Line)) : Type 0 where
  pub ordered : start ≤ end
  pub boundary : IsCharBoundary text start
  pub printable : plain ≡ true → are_printable (slice_range text start end) ≡ true
  pub whole : sum counts + count ≡ length lines
  pub rows : rows_with byte_line counts lines (slice_range text start end) (drop end text) ≡ map (map byte_line) (rows_of (λ b. b) text)

-- the cells that end there, as lines
abbrev pub lines : List ℕ → List CellEnd → List Line
lines text ends = map line_of_cell (cells_in text ends)

-- before the byte at `end`, where the present cell begins at `start`
pub record Before (text : List ℕ) (end start : ℕ) (plain : Bool) (rows : EndedRows) : Type 0 where
  pub fit : AreCellEnds text rows.ends
  pub begins : start_behind rows.ends ≡ start
  pub pass : Pass text end start rows.begun plain rows.counts (lines text rows.ends)

-- none of the bytes before `end` is ESC
abbrev pub Clear : List ℕ → ℕ → Type 0
Clear text end = (k : ℕ) → k < end → slice_index text k ≢ escape

-- before the byte at `end`, where the cell that begins at `start` has printable bytes so far, and no ESC is before it
pub record HasPassed (text : List ℕ) (start end : ℕ) (rows : EndedRows) : Type 0 where
  pub within : end ≤ length text
  pub before : Before text end start true rows
  pub clear : Clear text end
