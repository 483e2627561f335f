-- What is known of the rows of a text without ESC before each byte of it, and at its end.
use Rattle.std.proofs.Common.{◌≡◌, ℕ, ◌+◌, ◌-◌, ◌<◌, ◌≤◌, Bool, true, List, [], ◌∷◌, ◌++◌, chars, drop, get_or, length, map, refl, ap, sym, subst, ◌∙◌, arith}
use Rattle.std.specs.Prelude.{slice_range, IsUtf8}
use Rattle.std.specs.Str.{IsCharBoundary}
use Rattle.std.proofs.lemmas.List.{map_push}
use Rattle.std.proofs.lemmas.Str.{IsCharBoundary-before_ascii, IsCharBoundary-end}
use Rattle.grid_records_measure.specs.Measures.{measure}
use Rattle.columns_table.specs.Cells.{cell_of}
use Rattle.columns_table.specs.Ends.{AreCellEnds, IsTextIn, cells_in, start_behind}
use Rattle.columns_table.specs.RowEnds.{EndedRows, no_rows, row_ended, with_cell}
use Rattle.columns_table.specs.declared.ends.CellEnd.{CellEnd}
use Rattle.columns_table.proofs.EndsOfCells.{cells-more, fit-more, start-more}
use Rattle.columns_run.specs.Rows.{line_feed, tab}
use Rattle.columns_run.specs.Cells.{byte_line, line_of_cell}
use Rattle.columns_run.specs.Passing.{Before, lines}
use Rattle.columns_run.proofs.Passes.{AreRows, Pass-last, Pass-line_feed, Pass-none, Pass-start, Pass-tab, cell-last}

-- a cell that ends here, of these bytes
abbrev pub cell_with : ℕ → List ℕ → CellEnd
cell_with end bytes = record { end = end; width = measure (chars bytes) }

-- the lines with one more cell
lines-more : (text : List ℕ) (ends : List CellEnd) (start end : ℕ) (bytes : List ℕ) → start_behind ends ≡ start → slice_range text start end ≡ bytes
    → lines text (ends ++ cell_with end bytes ∷ []) ≡ lines text ends ++ byte_line bytes ∷ []
lines-more text ends start end bytes begins is =
    let width = measure (chars bytes) in
    ap (map line_of_cell) (cells-more text ends (cell_with end bytes))
    ∙ map_push line_of_cell (cells_in text ends) (cell_of (slice_range text (start_behind ends) end) width)
    ∙ ap (λ (found : List ℕ). lines text ends ++ record { measure = width; items = found } ∷ []) (ap (λ s. slice_range text s end) begins ∙ is)

fit-with : (text : List ℕ) (ends : List CellEnd) (start end : ℕ) (bytes : List ℕ) → start_behind ends ≡ start → AreCellEnds text ends → IsTextIn text start end → AreCellEnds text (ends ++ cell_with end bytes ∷ [])
fit-with text ends start end bytes begins fit inside = fit-more text ends (cell_with end bytes) fit (subst (λ s. IsTextIn text s end) (sym begins) inside)

pub Before-start : (text : List ℕ) → IsUtf8 text → Before text 0 0 true no_rows
Before-start text utf8 = record { fit = tt; begins = refl; pass = Pass-start text utf8 }

-- the rows of the whole text
pub record AreEnded (text : List ℕ) (rows : EndedRows) : Type 0 where
  pub fit : AreCellEnds text rows.ends
  pub ended : rows.begun ≡ 0
  pub are : AreRows text rows.counts (lines text rows.ends)

module _ (text : List ℕ) (end start : ℕ) (plain : Bool) (rows : EndedRows) (before : Before text end start plain rows) where
  abbrev cell : List ℕ
  cell = slice_range text start end

  abbrev pushed : EndedRows
  pushed = with_cell rows (cell_with end cell)

  module _ (utf8 : IsUtf8 text) (below : end < length text) where
    fit-pushed : get_or text end 0 < 128 → AreCellEnds text pushed.ends
    fit-pushed ascii =
        fit-with text rows.ends start end cell before.begins before.fit (before.pass.ordered, before.pass.boundary, IsCharBoundary-before_ascii text end below ascii)

    lines-pushed : lines text pushed.ends ≡ lines text rows.ends ++ byte_line cell ∷ []
    lines-pushed = lines-more text rows.ends start end cell before.begins refl

    pub Before-tab : get_or text end 0 ≡ tab → Before text (end + 1) (end + 1) true (with_cell rows (cell_with end (slice_range text start end)))
    Before-tab is = record {
      fit = fit-pushed (omega (arith, is));
      begins = start-more rows.ends (cell_with end cell);
      pass = Pass-tab text end start rows.begun plain rows.counts (lines text rows.ends) (lines text pushed.ends) utf8 below before.pass is lines-pushed;
    }

    pub Before-line_feed : get_or text end 0 ≡ line_feed → Before text (end + 1) (end + 1) true (row_ended (with_cell rows (cell_with end (slice_range text start end))))
    Before-line_feed is = record {
      fit = fit-pushed (omega (arith, is));
      begins = start-more rows.ends (cell_with end cell);
      pass = Pass-line_feed text end start rows.begun plain rows.counts (rows.counts ++ (rows.begun + 1) ∷ []) (lines text rows.ends) (lines text pushed.ends) utf8 below before.pass is lines-pushed refl;
    }

  -- at the end of the text
  pub Before-last : length text ≡ end → 0 < rows.begun + (length text - start) → AreEnded text (row_ended (with_cell rows (cell_with end (drop start text))))
  Before-last at_end some =
      let all : length text ≤ end = omega (arith, at_end) in
      let last : List CellEnd = rows.ends ++ cell_with end (drop start text) ∷ [] in
      record {
        fit = fit-with text rows.ends start end (drop start text) before.begins before.fit (before.pass.ordered, before.pass.boundary, subst (IsCharBoundary text) at_end (IsCharBoundary-end text));
        ended = refl;
        are = Pass-last text end start rows.begun plain rows.counts (rows.counts ++ (rows.begun + 1) ∷ []) (lines text rows.ends) (lines text last) all before.pass some
            (lines-more text rows.ends start end (drop start text) before.begins (cell-last text start end all)) refl;
      }

  pub Before-none : length text ≡ end → rows.begun ≡ 0 → length text ≤ start → AreEnded text rows
  Before-none at_end none no_bytes = record {
    fit = before.fit;
    ended = none;
    are = Pass-none text end start rows.begun plain rows.counts (lines text rows.ends) (omega (arith, at_end)) before.pass (omega (arith, none)) no_bytes;
  }
