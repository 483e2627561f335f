-- Each line of a cell is seen.
use Rattle.std.proofs.Common.{◌≡◌, ◌==◌, ℕ, ◌+◌, ◌-◌, ◌<◌, ◌≤◌, min, Bool, false, List, [], ◌++◌, Option, None, Some, get_or, map, length, replicate, sum, take, drop, refl, ap, sym, subst, ◌∙◌, arith}
use Rattle.std.specs.List.{filter, range_with_len}
use Rattle.std.proofs.lemmas.List.{get_or-append-add, get_or_append_left, length-map, length-replicate, take_all}
use Rattle.std.proofs.lemmas.List.FromFn.{get_or-map-range_with_len, length-map-range_with_len}
use Rattle.std.proofs.lemmas.List.Splits.{length-slice_split}
use Rattle.ansi_scan.specs.Pieces.{pieces}
use Rattle.ansi_str.specs.StyledText.{strip}
use Rattle.grid_config.specs.Compact.{Compact}
use Rattle.grid_config.specs.Looks.{compact_look}
use Rattle.grid_config_values.proofs.SpansLemmas.Owners.{owner_single}
use Rattle.grid_config_values.specs.Spans.Spans.{extent_at}
use Rattle.grid_config_values.specs.declared.position.Position.{Position}
use Rattle.grid_records_measure.specs.TextLines.{line_feed, line_measure, shown_lines, text_height}
use Rattle.grid_records_traits.specs.Rows.{evened, text_at}
use Rattle.grid_records_estimate.specs.Sizing.{compact_sizing, row_needs}
use Rattle.grid_records_estimate.proofs.Lengths.{length-evened}
use Rattle.grid_records_estimate.proofs.Rooms.{LeaveRoom-heights}
use Rattle.papergrid_fits.proofs.Estimated.{text_at-evened}
use Rattle.papergrid_picture.specs.Blocks.{Grid, Part, block, text_line}
use Rattle.papergrid_picture.specs.CellLines.{cell_measures}
use Rattle.papergrid_picture.specs.Frame.{Frame, block_height, block_width, frame_of, track_at}
use Rattle.papergrid_picture.specs.Picture.{at, block_parts, laid, seen}
use Rattle.papergrid_picture.specs.Tables.{table_grid}
use Rattle.papergrid_picture.specs.Tiling.{IsLineOf, ShowsAllLines}
use Rattle.columns_asked.specs.DrawnTables.{asked_frame, asked_widths, heights_of, resized_rows, longest_row_length, narrowed}
use Rattle.columns_asked.specs.declared.asked.WidthLimit.{WidthLimit}
use Rattle.columns_table.specs.Asking.{asked_grid}
use Rattle.columns_table.proofs.Narrowed.{kept-columns, kept-natural, widths-are, widths-natural}
use Rattle.columns_table.proofs.Natural.{positive-none}
use Rattle.columns_table.proofs.SplitRows.{height-each, width-each}

-- ---- a cell by its lines

measured-lines : (text : List ℕ) → length (cell_measures false false text) ≡ text_height text
unfolding text_height
measured-lines text =
    let lines = shown_lines (pieces text) in
    length-map (take (length lines) lines) line_measure ∙ ap (λ (found : List (List ℕ)). length found) (take_all (length lines) lines (omega arith))

some-lines : (text : List ℕ) → 0 < text_height text
unfolding text_height
some-lines text = omega (arith, length-slice_split (λ c. c == line_feed) (strip (pieces text)))

module _ (style : Compact) (texts : List (List (List ℕ))) (widths : List ℕ) (counted : 0 < length (heights_of style texts) → length widths ≡ longest_row_length texts) where
  abbrev heights : List ℕ
  heights = heights_of style texts

  abbrev columns : ℕ
  columns = longest_row_length texts

  abbrev grid : Grid
  grid = table_grid (compact_look style) texts (λ _. None) widths heights

  abbrev frame : Frame
  frame = frame_of (compact_look style) widths heights

  -- a row is as high as each of its cells needs
  high : (i j : ℕ) → i < length texts → j < columns → text_height (text_at (evened columns texts) (at i j)) + style.padding.top.size + style.padding.bottom.size ≤ sum (take 1 (drop i heights))
  unfolding extent_at
  high i j in_rows in_columns =
      let long = length-evened columns texts in
      let one : min 1 (length (evened columns texts) - i) ≡ 1 = omega (arith, in_rows, long) in
      let has : ℕ → Bool = (row_needs (compact_sizing style) columns (evened columns texts)).has_boundary in
      let here = LeaveRoom-heights (compact_sizing style) columns texts i j (omega (arith, in_rows, long)) in_columns refl (positive-none (at i j)).0 in
      let whole : text_height (text_at (evened columns texts) (at i j)) + style.padding.top.size + style.padding.bottom.size ≤ sum (take 1 (drop i heights)) + length (filter has (range_with_len (i + 1) (1 - 1))) =
      subst (λ n. text_height (text_at (evened columns texts) (at i j)) + style.padding.top.size + style.padding.bottom.size ≤ sum (take n (drop i heights)) + length (filter has (range_with_len (i + 1) (n - 1)))) one here in
      omega (arith, whole)

  abbrev count : ℕ → ℕ → ℕ
  count i j = length (grid.measures (at i j))

  count-is : (i j : ℕ) → count i j ≡ text_height (text_at texts (at i j))
  count-is i j = measured-lines (text_at texts (at i j))

  enough : (i j : ℕ) → i < length heights → j < length widths → style.padding.top.size + count i j ≤ block_height frame (at i j)
  enough i j row column =
      let some : 0 < length heights = omega (arith, row) in
      let in_rows : i < length texts = omega (arith, row, height-each style texts some) in
      let in_columns : j < columns = omega (arith, column, counted some) in
      let same : text_height (text_at (evened columns texts) (at i j)) ≡ text_height (text_at texts (at i j)) = ap text_height (text_at-evened columns texts i j in_columns) in
      let room : block_height frame (at i j) ≡ sum (take 1 (drop i heights)) = omega arith in
      omega (arith, high i j in_rows in_columns, same, room, count-is i j)

  seen-itself : (i j : ℕ) → seen grid i j ≡ at i j
  seen-itself i j = owner_single (at i j)

  pub shows-all : ShowsAllLines grid
  shows-all = record {
    lines = λ i j row column.
        subst (λ (cell : Position). (0 < length (grid.measures cell)) × (style.padding.top.size + length (grid.measures cell) ≤ block_height frame cell)) (sym (seen-itself i j))
        (omega (arith, count-is i j, some-lines (text_at texts (at i j))), enough i j row column);
  }

  -- ---- the lines of its block

  behind-padding : (n k : ℕ) (part : List Part) (parts : List (List Part)) → get_or (replicate n part ++ parts) (n + k) [] ≡ get_or parts k []
  behind-padding n k part parts =
      ap (λ m. get_or (replicate n part ++ parts) (m + k) []) (sym (length-replicate n part)) ∙ get_or-append-add (replicate n part) parts k []

  line-at : (line : ℕ → List Part) (n k : ℕ) (parts : List (List Part)) → k < n → get_or (map line (range_with_len 0 n) ++ parts) k [] ≡ line k
  line-at line n k parts below =
      let many : length (map line (range_with_len 0 n)) ≡ n = length-map-range_with_len line 0 n in
      get_or_append_left (map line (range_with_len 0 n)) parts [] k (omega (arith, many, below)) ∙ get_or-map-range_with_len line 0 n k k [] below (omega arith)

  block-line : (i j k : ℕ) → k < count i j → get_or (block grid (at i j) (block_width frame (at i j)) (block_height frame (at i j))) (style.padding.top.size + k) [] ≡ text_line grid (at i j) (block_width frame (at i j)) k
  block-line i j k below =
      behind-padding style.padding.top.size k _ _ ∙ line-at (text_line grid (at i j) (block_width frame (at i j))) (count i j) k _ below

  pub line-shown : (i j k : ℕ) → i < length heights → j < length widths → k < count i j
      → (y : ℕ) × IsLineOf grid (at i j) y × (block_parts grid (at i j) y ≡ laid (track_at frame.columns j) (text_line grid (at i j) (block_width frame (at i j)) k))
  line-shown i j k row column below =
      let top = style.padding.top.size in
      let begin = track_at frame.rows i in
      let inside : begin + (top + k) - begin ≡ top + k = omega arith in (
        begin + (top + k),
        (omega arith, omega (arith, enough i j row column, below)),
        ap (λ n. laid (track_at frame.columns j) (get_or (block grid (at i j) (block_width frame (at i j)) (block_height frame (at i j))) n [])) inside
            ∙ ap (laid (track_at frame.columns j)) (block-line i j k below),
      )

-- ---- the table in a requested width

module _ (style : Compact) (asked : WidthLimit) (texts : List (List (List ℕ))) where
  abbrev kept : List (List (List ℕ))
  kept = resized_rows style asked texts

  -- as many widths as there are columns
  each-column : 0 < length (heights_of style kept) → length (asked_widths style asked texts) ≡ longest_row_length kept
  each-column some = step (narrowed style asked texts) refl where
    step : (told : Option (List ℕ)) → narrowed style asked texts ≡ told → length (asked_widths style asked texts) ≡ longest_row_length kept
    step None told =
        let same : kept ≡ texts = kept-natural style asked texts told in
        let high : 0 < length (heights_of style texts) = subst (λ (rows : List (List (List ℕ))). 0 < length (heights_of style rows)) same some in
        ap (λ (sizes : List ℕ). length sizes) (widths-natural style asked texts told) ∙ width-each style texts high ∙ ap (λ (rows : List (List (List ℕ))). longest_row_length rows) (sym same)
    step (Some widths) told = ap (λ (sizes : List ℕ). length sizes) (widths-are style asked texts widths told) ∙ kept-columns style asked texts widths told

  pub asked-lines : ShowsAllLines (asked_grid style asked texts)
  asked-lines = shows-all style kept (asked_widths style asked texts) each-column

  pub asked-shown : (i j k : ℕ) → i < length (heights_of style kept) → j < length (asked_widths style asked texts) → k < length ((asked_grid style asked texts).measures (at i j))
      → (y : ℕ) × IsLineOf (asked_grid style asked texts) (at i j) y
      × (block_parts (asked_grid style asked texts) (at i j) y
      ≡ laid (track_at (asked_frame style asked texts).columns j) (text_line (asked_grid style asked texts) (at i j) (block_width (asked_frame style asked texts) (at i j)) k))
  asked-shown = line-shown style kept (asked_widths style asked texts) each-column
