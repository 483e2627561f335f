-- The bytes of a table, piece by piece.
use Rattle.std.proofs.Common.{◌≡◌, ℕ, zero, suc, ◌+◌, ◌<◌, ◌≤◌, ◌==◌, false, List, [], ◌∷◌, ◌++◌, length, map, get_or, replicate, refl, ap, sym, ◌∙◌, arith, if◌then◌else◌}
use Rattle.std.specs.Prelude.{encode_utf8, flat_map}
use Rattle.std.specs.List.{join_with_byte, range_with_len}
use Rattle.std.proofs.lemmas.Bool.Decides.{nat_tests}
use Rattle.std.proofs.lemmas.List.{append_assoc, map-id, take_all}
use Rattle.ansi_scan.specs.Pieces.{pieces}
use Rattle.columns_asked.specs.Colors.ColoredTables.{colored_text}
use Rattle.columns_asked.specs.Colors.ColumnColors.{cell_color}
use Rattle.columns_asked.specs.DrawnTables.{asked_widths, by_column, heights_of, resized_rows, narrowed, resize_in}
use Rattle.columns_asked.specs.Resizing.{resized_text}
use Rattle.grid_config.specs.Looks.{compact_look}
use Rattle.grid_config_values.specs.declared.position.Position.{Position}
use Rattle.grid_records_measure.proofs.TextLines.{length-text_lines}
use Rattle.grid_records_measure.specs.TextLines.{line_feed, shown_lines, text_height, text_lines}
use Rattle.grid_records_estimate.specs.Rows.{HasCell, row_at, text_at}
use Rattle.papergrid_picture.proofs.Joins.{table_text-joined}
use Rattle.papergrid_picture.specs.Colors.ColoredLines.{with_painted_lines}
use Rattle.papergrid_picture.proofs.ColorsLemmas.Pieces.{line-pieces}
use Rattle.papergrid_picture.proofs.Shown.{get_or-map}
use Rattle.papergrid_picture.specs.Blocks.{Content, Fill, Glyph, TextLine}
use Rattle.papergrid_picture.specs.CellLines.{cell_lines}
use Rattle.papergrid_picture.specs.Frame.{frame_of, line_count}
use Rattle.papergrid_picture.specs.Picture.{PlacedPart}
use Rattle.papergrid_picture.specs.Reading.{Reading, content_items}
use Rattle.papergrid_picture.specs.Tables.{in_bytes, table_line}
use Rattle.columns_run.specs.DrawnTables.{colored_line, grid_of, line_bytes, output_of, placed_bytes, resize_of, resized_texts}
use Rattle.columns_run.specs.Narrow.{HasNarrowGlyphs}
use Rattle.columns_run.specs.Rows.{cell_parts}
use Rattle.columns_run.specs.Wanted.{Wanted}
use Rattle.columns_run.proofs.Colors.{painted-is}
use Rattle.columns_run.proofs.Plain.{bare}

-- ---- lines

-- lines with a line feed between each two and one after the last are lines that each end with one
ends : (line : ℕ → List ℕ) (y : ℕ) (ys : List ℕ) → join_with_byte line_feed (map line (y ∷ ys)) ++ line_feed ∷ [] ≡ flat_map (λ k. line k ++ line_feed ∷ []) (y ∷ ys)
ends line y [] = sym (append_assoc (line y) (line_feed ∷ []) [])
ends line y (next ∷ ys) =
    append_assoc (line y) (line_feed ∷ join_with_byte line_feed (map line (next ∷ ys))) (line_feed ∷ [])
    ∙ ap (λ rest. line y ++ (line_feed ∷ rest)) (ends line next ys)
    ∙ sym (append_assoc (line y) (line_feed ∷ []) (flat_map (λ k. line k ++ line_feed ∷ []) (next ∷ ys)))

ended-lines : (line : ℕ → List ℕ) (n : ℕ) → (if n == 0 then [] else join_with_byte line_feed (map line (range_with_len 0 n)) ++ line_feed ∷ []) ≡ flat_map (λ y. line y ++ line_feed ∷ []) (range_with_len 0 n)
ended-lines line zero = refl
ended-lines line (suc n) =
    let some : (suc n == 0) ≡ false = grind (arith, nat_tests) in
    ap (λ none. if none then [] else join_with_byte line_feed (map line (range_with_len 0 (suc n))) ++ line_feed ∷ []) some ∙ ends line 0 (range_with_len 1 n)

-- a line of a cell has the bytes of that line of the text
pub line-text : (text : List ℕ) (k : ℕ) → get_or (cell_lines false false text) k [] ≡ get_or (text_lines text) k []
unfolding text_height
line-text text k =
    let lines = text_lines text in
    let all : length lines ≤ length (shown_lines (pieces text)) = omega (arith, length-text_lines text) in
    ap (λ (found : List (List ℕ)). get_or found k []) (map-id _ ∙ take_all (length (shown_lines (pieces text))) lines all)

-- ---- the table of a text

module _ (wanted : Wanted) (input : List ℕ) where
  abbrev reading : Reading ℕ
  reading = with_painted_lines (in_bytes (compact_look wanted.style) (resized_texts wanted input)) (cell_color wanted.colors)

  -- the output is the lines of its grid
  pub output-lines : HasNarrowGlyphs wanted.style → output_of wanted input ≡ flat_map (λ y. line_bytes wanted input y ++ line_feed ∷ []) (range_with_len 0 (line_count (grid_of wanted input).frame))
  unfolding output_of colored_text grid_of resized_texts placed_bytes
  output-lines narrow =
      let style = wanted.style in
      let asked = wanted.limit in
      let kept = resized_rows style asked (cell_parts input) in
      let widths = asked_widths style asked (cell_parts input) in
      let heights = heights_of style kept in
      let n = line_count (frame_of (compact_look style) widths heights) in
      let colors = cell_color wanted.colors in
      ap (λ (text : List ℕ). if n == 0 then [] else text ++ line_feed ∷ []) (table_text-joined (compact_look style) kept colors widths heights)
      ∙ ended-lines (table_line (compact_look style) kept colors widths heights) n
      ∙ (λ k. flat_map (λ y. line-pieces (compact_look style) kept colors widths heights (bare style narrow) y k ++ line_feed ∷ []) (range_with_len 0 n))

  pub piece-text : (piece : PlacedPart) (cell : Position) (k : ℕ) → piece.part.content ≡ TextLine cell k
      → placed_bytes wanted input piece ≡ colored_line (cell_color wanted.colors cell) (get_or (text_lines (text_at (resized_texts wanted input) cell)) k [])
  unfolding placed_bytes
  piece-text piece cell k is =
      let kept = resized_texts wanted input in
      let color = cell_color wanted.colors cell in
      ap (λ (content : Content). content_items reading content piece.part.width) is
      ∙ painted-is (compact_look wanted.style) kept color (get_or (cell_lines false false (text_at kept cell)) k [])
      ∙ ap (colored_line color) (line-text (text_at kept cell) k)

  pub piece-fill : (piece : PlacedPart) (c : ℕ) → piece.part.content ≡ Fill c → placed_bytes wanted input piece ≡ flat_map encode_utf8 (replicate piece.part.width c)
  unfolding placed_bytes
  piece-fill piece c is = ap (λ (content : Content). content_items reading content piece.part.width) is

  pub piece-glyph : (piece : PlacedPart) (c : ℕ) → piece.part.content ≡ Glyph c → placed_bytes wanted input piece ≡ flat_map encode_utf8 (replicate piece.part.width c)
  unfolding placed_bytes
  piece-glyph piece c is = ap (λ (content : Content). content_items reading content piece.part.width) is

-- ---- cells

by_column-at : (f : ℕ → List ℕ → List ℕ) (first j : ℕ) (row : List (List ℕ)) → j < length row → get_or (by_column f first row) j [] ≡ f (first + j) (get_or row j [])
by_column-at f first j [] inside = absurd (omega (arith, inside))
by_column-at f first zero (text ∷ row) inside = let same : first ≡ first + 0 = omega arith in ap (λ n. f n text) same
by_column-at f first (suc j) (text ∷ row) inside =
    let same : first + 1 + j ≡ first + suc j = omega arith in
    by_column-at f (first + 1) j row (omega (arith, inside)) ∙ ap (λ n. f n (get_or row j [])) same

-- a cell that is kept is the part of the text, resized
pub kept-resized : (wanted : Wanted) (input : List ℕ) (cell : Position) → HasCell (cell_parts input) cell → text_at (resized_texts wanted input) cell ≡ resized_text (resize_of wanted input cell.col) (text_at (cell_parts input) cell)
unfolding resized_texts resized_rows resize_of
kept-resized wanted input cell inside =
    let style = wanted.style in
    let asked = wanted.limit in
    let texts = cell_parts input in
    let resize : ℕ → List ℕ → List ℕ = λ column. resized_text (resize_in style asked (narrowed style asked texts) column) in
    ap (λ (row : List (List ℕ)). get_or row cell.col []) (get_or-map (by_column resize 0) texts cell.row [])
    ∙ by_column-at resize 0 cell.col (row_at texts cell.row) inside.1
    ∙ ap (λ n. resize n (text_at texts cell)) (let same : 0 + cell.col ≡ cell.col = omega arith in same)
