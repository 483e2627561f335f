-- What is known of cells that are gathered, and how one more changes it.
use Rattle.std.proofs.Common.{◌≡◌, ℕ, ◌+◌, List, [], ◌∷◌, ◌++◌, chars, length, map, refl, ap, sym, subst, ◌∙◌, length-append}
use Rattle.std.proofs.lemmas.List.{length-map, map_push}
use Rattle.grid_records_measure.specs.Measures.{measure}
use Rattle.columns_table.specs.Cells.{cell_of}
use Rattle.columns_table.specs.Ends.{AreCellEnds, cells_in, start_behind}
use Rattle.columns_table.specs.RowEnds.{EndedRows}
use Rattle.columns_table.specs.Rows.{cell_texts}
use Rattle.columns_table.specs.declared.cells.LineCell.{LineCell}
use Rattle.columns_table.specs.declared.ends.CellEnd.{CellEnd}
use Rattle.columns_table.proofs.EndsOfCells.{cells-written, fit-written, length-cells_in, start-written}
use Rattle.columns_run.specs.Cells.{line_of_cell, part_line}
use Rattle.columns_run.specs.Rows.{stripped}
use Rattle.columns_run.specs.Styled.{AddsCell, GatheredCells}

-- the parts that are gathered
abbrev pub parts_in : List ℕ → List CellEnd → List (List ℕ)
parts_in text ends = cell_texts (cells_in text ends)

-- the cells are in their text, up to its end, each measured without its sequences
pub record Gathered (text : List ℕ) (ends : List CellEnd) : Type 0 where
  pub fit : AreCellEnds text ends
  pub begins : start_behind ends ≡ length text
  pub lines : map line_of_cell (cells_in text ends) ≡ map part_line (parts_in text ends)

pub Gathered-start : (text : List ℕ) (ends : List CellEnd) → text ≡ [] → ends ≡ [] → Gathered text ends
Gathered-start text ends no_text none =
    subst (λ found. Gathered text found) (sym none) (subst (λ bytes. Gathered bytes []) (sym no_text) (record { fit = tt; begins = refl; lines = refl }))

pub length-parts_in : (text : List ℕ) (ends : List CellEnd) → length (parts_in text ends) ≡ length ends
length-parts_in text ends = length-map (cells_in text ends) (λ (cell : LineCell). cell.text.now) ∙ length-cells_in text ends

module _ (old new : GatheredCells) (part : List ℕ) (gathered : Gathered old.text old.rows.ends) (adds : AddsCell old new part) where
  abbrev cell : CellEnd
  cell = record { end = length (old.text ++ part); width = measure (chars (stripped part)) }

  ends-is : new.rows.ends ≡ old.rows.ends ++ cell ∷ []
  ends-is = ap (λ (rows : EndedRows). rows.ends) adds.rows

  abbrev before : List LineCell
  before = cells_in old.text old.rows.ends

  cells-added : cells_in new.text new.rows.ends ≡ before ++ cell_of part cell.width ∷ []
  cells-added =
      ap (λ text. cells_in text new.rows.ends) adds.text
      ∙ ap (cells_in (old.text ++ part ++ adds.separator ∷ [])) ends-is
      ∙ cells-written old.text part adds.separator old.rows.ends cell adds.utf8 adds.ascii gathered.begins refl gathered.fit

  pub parts-added : parts_in new.text new.rows.ends ≡ parts_in old.text old.rows.ends ++ part ∷ []
  parts-added = ap cell_texts cells-added ∙ map_push (λ (cell : LineCell). cell.text.now) before (cell_of part cell.width)

  pub Gathered-more : Gathered new.text new.rows.ends
  Gathered-more = record {
    fit = subst (λ text. AreCellEnds text new.rows.ends) (sym adds.text)
        (subst (AreCellEnds (old.text ++ part ++ adds.separator ∷ [])) (sym ends-is)
        (fit-written old.text part adds.separator old.rows.ends cell adds.utf8 adds.ascii gathered.begins refl gathered.fit));
    begins = ap start_behind ends-is ∙ start-written old.text part adds.separator old.rows.ends cell adds.utf8 adds.ascii gathered.begins refl gathered.fit ∙ sym (ap length adds.text);
    lines =
        ap (map line_of_cell) cells-added
        ∙ map_push line_of_cell before (cell_of part cell.width)
        ∙ ap (λ lines. lines ++ part_line part ∷ []) gathered.lines
        ∙ sym (map_push part_line (parts_in old.text old.rows.ends) part)
        ∙ ap (map part_line) (sym parts-added);
  }

  pub ends-longer : length new.rows.ends ≡ length old.rows.ends + 1
  ends-longer = ap length ends-is ∙ length-append old.rows.ends (cell ∷ [])
