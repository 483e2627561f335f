-- Lines of rows that are laid over what is left of the line of a row of empty cells show what the picture shows.
use Rattle.std.proofs.Common.{◌≡◌, ℕ, ◌+◌, ◌-◌, ◌<◌, ◌≤◌, List, ◌++◌, Option, None, drop, get_or, length, refl, ap, sym, subst, ◌∙◌, arith, append_assoc, append-nil, string_bytes}
use Rattle.std.specs.Prelude.{slice_index}
use Rattle.std.specs.Option.{option_map}
use Rattle.std.specs.Str.{IsUtf8}
use Rattle.std.proofs.lemmas.List.{at_drop_all, get_or_default}
use Rattle.grid_config.specs.Colors.{color_of}
use Rattle.grid_config.specs.Looks.{look_of}
use Rattle.grid_config_values.specs.declared.position.Position.{Position}
use Rattle.papergrid_picture.specs.Frame.{Row}
use Rattle.papergrid_picture.specs.Picture.{at, parts_of, row_part, seen}
use Rattle.papergrid_cells.specs.BlockLines.{alone_bytes, block_line_at, text_of}
use Rattle.papergrid_cells.specs.Boundaries.{upright_bytes}
use Rattle.papergrid_cells.specs.Flat.{AreEven, GoesOn, HasSlot, IsSlotOf, IsSomeEmptyRow, Standing, empty_from, first_cell, joint_behind, joints_of, led_bytes, left_padding, line_in_column, right_padding, slots_from, standing, standing_of}
use Rattle.papergrid_cells.specs.Shown.{counted_columns, measures_of}
use Rattle.papergrid_cells.specs.declared.block.BlockLine.TheVariants.{Text}
use Rattle.papergrid_cells.specs.declared.block.OpenCell.{OpenCell}
use Rattle.papergrid_cells.specs.declared.empty_row.EmptyRow.{EmptyRow}
use Rattle.papergrid_cells.specs.declared.empty_row.Ink.TheVariants.{Uncolored}
use Rattle.papergrid_cells.specs.declared.empty_row.TextSlot.{TextSlot}
use Rattle.papergrid_cells.specs.declared.flat.FlatRows.{FlatRows}
use Rattle.papergrid_cells.proofs.EmptyRows.{inked, rest-inside, slot-spaces, slot-wide, utf8-leads}
use Rattle.papergrid_cells.proofs.FlatParts.{left-same, right-same, standing-own, text-line-is}
use Rattle.papergrid_print.specs.FlatSheets.{IsEvenTable, IsLineOfRow, line_front}
use Rattle.papergrid_print.specs.Sheets.{Sheet, ShowsAt, ShowsCell, grid_of, painted_bytes, sheet_line, top_of_row}
use Rattle.papergrid_print.proofs.Flat.{block_height-one, block_width-one, line-begins, line-ends, line-more, seen-own}
use Rattle.papergrid_print.proofs.LinesShown.{row-part}

-- ---- the line of an open cell

module _ (sheet : Sheet) (even : AreEven sheet.settings) (i y j : ℕ) (row : i < length sheet.heights) (column : j < length sheet.widths) (cell : OpenCell) (shows : ShowsCell sheet (seen (grid_of sheet) i j) cell) where
  abbrev here : Position
  here = at i j

  shows-own : ShowsCell sheet here cell
  shows-own = subst (λ (pos : Position). ShowsCell sheet pos cell) (seen-own sheet even.single i j) shows

  -- it is in the cell's rectangle
  pub line-inside : IsLineOfRow sheet i y → y - cell.top < cell.height
  line-inside is =
      let high : cell.height ≡ get_or sheet.heights i 0 = shows-own.height ∙ block_height-one sheet even.single i j row in
      let top : cell.top ≡ top_of_row sheet i = shows-own.top in
      let before : y < top_of_row sheet i + get_or sheet.heights i 0 = is.before in
      omega (arith, is.from, before, top, high)

  -- what the column shows between its paddings, where that line is one of the text
  abbrev pub cell_line : FlatRows → ℕ → List ℕ
  cell_line rows k =
      line_in_column (standing_of rows ((look_of sheet.settings).alignment_horizontal cell.pos)) (get_or sheet.widths j 0) (slice_index (measures_of cell.lines) k) (counted_columns cell.line_alignment (measures_of cell.lines) k)
      (option_map color_of cell.color) (text_of cell k)

  pub open-part : (rows : FlatRows) (k : ℕ) → IsEvenTable sheet rows → block_line_at (look_of sheet.settings) cell.pos (length (measures_of cell.lines)) cell.height (y - cell.top) ≡ Text k
      → painted_bytes sheet (parts_of (row_part (grid_of sheet) i y j))
      ≡ upright_bytes (look_of sheet.settings) j (length sheet.widths) ++ (left_padding (look_of sheet.settings) first_cell ++ (cell_line rows k ++ right_padding (look_of sheet.settings) first_cell))
  open-part rows k table kind =
      let look = look_of sheet.settings in
      let up = upright_bytes look j (length sheet.widths) in
      let first : (seen (grid_of sheet) i j).col ≡ j = ap (λ (p : Position). p.col) (seen-own sheet even.single i j) in
      let wide : cell.width ≡ get_or sheet.widths j 0 = shows-own.width ∙ block_width-one sheet even.single i j column in
      let own : ℕ = counted_columns (look.line_alignment cell.pos) (measures_of cell.lines) k in
      let counted : own ≡ counted_columns cell.line_alignment (measures_of cell.lines) k = ap (λ b. counted_columns b (measures_of cell.lines) k) (ap look.line_alignment shows-own.place ∙ sym shows-own.line_alignment) in
      let shown_by : ℕ → Standing → ℕ → List ℕ = λ m s n. line_in_column s n (slice_index (measures_of cell.lines) k) m (option_map color_of cell.color) (text_of cell k) in
      let shown : Standing → ℕ → List ℕ = shown_by own in
      sym (row-part sheet i y j cell first shows)
      ∙ ap (λ l. up ++ l)
      (ap (alone_bytes look cell) kind
      ∙ (text-line-is sheet.settings even cell k
      ∙ (ap (λ l. l ++ (shown (standing look cell.pos) cell.width ++ right_padding look cell.pos)) (left-same sheet.settings even cell.pos)
      ∙ (ap (λ l. left_padding look first_cell ++ (shown (standing look cell.pos) cell.width ++ l)) (right-same sheet.settings even cell.pos)
      ∙ (ap (λ s. left_padding look first_cell ++ (shown s cell.width ++ right_padding look first_cell)) (sym (standing-own sheet.settings even (length sheet.widths) rows cell.pos table.rows))
      ∙ (ap (λ n. left_padding look first_cell ++ (shown (standing_of rows (look.alignment_horizontal cell.pos)) n ++ right_padding look first_cell)) wide
      ∙ ap (λ m. left_padding look first_cell ++ (shown_by m (standing_of rows (look.alignment_horizontal cell.pos)) (get_or sheet.widths j 0) ++ right_padding look first_cell)) counted))))))

-- a cell that is not kept is none that is seen
pub none-kept : (sheet : Sheet) (pos : Position) (cells : List (Option OpenCell)) (j : ℕ) (kept : Option OpenCell) → j < length cells
    → ShowsAt sheet pos (get_or cells j None) → kept ≡ get_or cells j kept → kept ≡ None → ⊥
none-kept sheet pos cells j kept below shows is none = subst (λ (k : Option OpenCell). ShowsAt sheet pos k) (get_or_default cells j None kept below ∙ (sym is ∙ none)) shows

-- ---- the line of a row of empty cells, and what is left of it

module _ (sheet : Sheet) (rows : FlatRows) (table : IsEvenTable sheet rows) (empty : EmptyRow) (some : IsSomeEmptyRow rows sheet.colors sheet.widths empty) (i y : ℕ) where
  abbrev pub tail_from : ℕ → List ℕ
  tail_from j = empty_from (joints_of rows) some.0 (length sheet.widths) j (drop j sheet.widths)

  -- all of it is left before the first column
  pub laid-begins : 0 < length sheet.widths → (begin line : List ℕ) → line ≡ string_bytes empty.line → GoesOn begin line (begin ++ line_front sheet i y 0) (tail_from 0)
  laid-begins columns begin line is = record {
    middle = string_bytes rows.front;
    parts = is ∙ some.1.0.line;
    shows = ap (λ l. begin ++ l) (line-begins sheet i y rows columns table.rows);
  }

  -- with all of it the line is whole
  pub laid-ends : (j : ℕ) → j ≡ length sheet.widths → (begin bytes left : List ℕ) → GoesOn bytes left (begin ++ line_front sheet i y j) (tail_from j) → bytes ++ left ≡ begin ++ sheet_line sheet (Row i) y
  laid-ends j end begin bytes left goes =
      let past : length sheet.widths ≤ j = omega (arith, end) in
      ap (λ l. bytes ++ l) (goes.parts ∙ (ap (λ l. goes.middle ++ l) (at_drop_all (empty_from (joints_of rows) some.0 (length sheet.widths) j) sheet.widths j past) ∙ append-nil goes.middle))
      ∙ (goes.shows ∙ ap (λ l. begin ++ l) (line-ends sheet i y j end))

  module _ (j : ℕ) (column : j < length sheet.widths) (begin bytes left : List ℕ) (goes : GoesOn bytes left (begin ++ line_front sheet i y j) (tail_from j))
      (slots : List TextSlot) (are_slots : slots ≡ slots_from (joints_of rows) some.0 (length sheet.widths) 0 sheet.widths) (slot : TextSlot) (found : slot ≡ get_or slots j slot) where
    pub leads : (n : ℕ) → IsUtf8 (led_bytes (get_or some.0 n Uncolored))
    leads = utf8-leads _ _ _ _ some.1.1

    -- the slot of column j is in it
    abbrev pub own-slot : HasSlot left slot
    own-slot = record {
      middle = goes.middle;
      spaces = slot-spaces rows sheet.widths some.0 leads goes.middle j column goes.parts slots are_slots slot found (length left) refl;
      front = refl;
      lead = subst (λ ink. IsUtf8 (led_bytes ink)) (sym (inked rows sheet.widths some.0 leads goes.middle j column goes.parts slots are_slots slot found (length left) refl)) (leads j);
      inside = rest-inside rows sheet.widths some.0 leads goes.middle j column goes.parts slots are_slots slot found (length left) refl;
    }

    pub of-column : IsSlotOf rows (get_or sheet.widths j 0) slot
    of-column = record {
      fill = some.1.0.fill;
      color = some.1.0.color;
      room = slot-wide rows sheet.widths some.0 leads goes.middle j column goes.parts slots are_slots slot found (length left) refl;
    }

    -- one column more
    pub laid-more : (shown : List ℕ) {new rest : List ℕ}
        → painted_bytes sheet (parts_of (row_part (grid_of sheet) i y j))
        ≡ upright_bytes (look_of sheet.settings) j (length sheet.widths) ++ (left_padding (look_of sheet.settings) first_cell ++ (shown ++ right_padding (look_of sheet.settings) first_cell))
        → GoesOn new rest ((bytes ++ goes.middle) ++ shown) (joint_behind (joints_of rows) j (length sheet.widths) ++ tail_from (j + 1))
        → GoesOn new rest (begin ++ line_front sheet i y (j + 1)) (tail_from (j + 1))
    laid-more shown {new} {rest} part next =
        let joint = joint_behind (joints_of rows) j (length sheet.widths) in
        record {
          middle = next.middle ++ joint;
          parts = next.parts ∙ sym (append_assoc next.middle joint (tail_from (j + 1)));
          shows = line-more sheet i y j rows begin shown column table.rows part goes.shows
              (sym (append_assoc new next.middle joint) ∙ ap (λ l. l ++ joint) next.shows);
        }
