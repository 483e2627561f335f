-- The table of rows is that of the same rows filled up to the longest.
use Rattle.std.proofs.Common.{◌≡◌, ◌-◌, ◌+◌, ℕ, zero, suc, List, [], ◌∷◌, ◌++◌, Option, length, map, replicate, take, refl, ap, sym, ◌∙◌, arith}
use Rattle.grid_config.specs.Colors.{Color}
use Rattle.grid_config.specs.Compact.{Compact}
use Rattle.grid_config.specs.Looks.{compact_look}
use Rattle.grid_config_values.specs.declared.position.Position.{Position}
use Rattle.grid_records_estimate.specs.Estimates.{track_sizes}
use Rattle.grid_records_estimate.specs.Sizes.{table_heights, table_widths}
use Rattle.grid_records_estimate.specs.Sizing.{column_needs, compact_sizing, row_needs}
use Rattle.grid_records_measure.specs.TextLines.{line_feed}
use Rattle.grid_records_traits.specs.Rows.{evened, evened_row}
use Rattle.grid_records_traits.proofs.EvenedRows.{evened-twice}
use Rattle.papergrid_picture.specs.Fitting.{table_width}
use Rattle.papergrid_picture.specs.Frame.{Frame, frame_of}
use Rattle.papergrid_picture.specs.Tables.{table_text}
use Rattle.tabled_size_wrap.specs.Cells.Resizing.{Resize, resized_text}
use Rattle.columns_asked.specs.declared.asked.WidthLimit.{WidthLimit}
use Rattle.columns_asked.specs.DrawnTables.{asked_widths, by_column, ended, frame_under, heights_of, resized_rows, longest_row_length, narrow, narrowed, resize_in, widths_of, widths_or}
use Rattle.columns_asked.specs.Colors.ColoredTables.{colored_text}
use Rattle.columns_laws.proofs.LibraryLemmas.AlikeTexts.{text-alike}
use Rattle.columns_laws.proofs.LibraryLemmas.EmptyTexts.{nothing-resized}
use Rattle.columns_laws.proofs.LibraryLemmas.FilledRows.{count-filled, texts-same}

-- ---- sizes

module _ (style : Compact) (rows : List (List (List ℕ))) where
  abbrev columns : ℕ
  columns = longest_row_length rows

  abbrev filled : List (List (List ℕ))
  filled = evened columns rows

  widths-filled : widths_of style filled ≡ widths_of style rows
  unfolding table_widths
  widths-filled =
      ap (λ n. table_widths (compact_sizing style) n filled) (count-filled rows)
      ∙ ap (λ (found : List (List (List ℕ))). track_sizes (column_needs (compact_sizing style) columns found)) (evened-twice rows columns)

  heights-filled : heights_of style filled ≡ heights_of style rows
  unfolding table_heights
  heights-filled =
      ap (λ n. table_heights (compact_sizing style) n filled) (count-filled rows)
      ∙ ap (λ (found : List (List (List ℕ))). track_sizes (row_needs (compact_sizing style) columns found)) (evened-twice rows columns)

  pub frame-filled : frame_under style filled ≡ frame_under style rows
  frame-filled =
      ap (λ (widths : List ℕ). frame_of (compact_look style) widths (heights_of style filled)) widths-filled
      ∙ ap (λ (heights : List ℕ). frame_of (compact_look style) (widths_of style rows) heights) heights-filled

  narrowed-filled : (asked : WidthLimit) → narrowed style asked filled ≡ narrowed style asked rows
  narrowed-filled asked =
      ap (λ (widths : List ℕ). narrow style asked widths (table_width (frame_under style filled)) asked.width) widths-filled
      ∙ ap (λ (frame : Frame). narrow style asked (widths_of style rows) (table_width frame) asked.width) frame-filled

-- ---- resized texts

module _ (resize : ℕ → Resize) where
  abbrev each : ℕ → List ℕ → List ℕ
  each column text = resized_text (resize column) text

  pub length-each : (column : ℕ) (row : List (List ℕ)) → length (by_column each column row) ≡ length row
  length-each column [] = refl
  length-each column (text ∷ row) = ap suc (length-each (column + 1) row)

  pub count-each : (rows : List (List (List ℕ))) → longest_row_length (map (by_column each 0) rows) ≡ longest_row_length rows
  count-each [] = refl
  count-each (row ∷ rows) = omega (arith, length-each 0 row, count-each rows)

  empty-texts : (column m : ℕ) → by_column each column (replicate m []) ≡ replicate m []
  empty-texts column zero = refl
  empty-texts column (suc m) =
      ap (λ (first : List ℕ). first ∷ by_column each (column + 1) (replicate m [])) (nothing-resized (resize column))
      ∙ ap (λ (rest : List (List ℕ)). [] ∷ rest) (empty-texts (column + 1) m)

  front-same : (column n m : ℕ) (row : List (List ℕ)) → by_column each column (take n row ++ replicate m []) ≡ take n (by_column each column row) ++ replicate m []
  front-same column zero m row = empty-texts column m
  front-same column (suc n) m [] = empty-texts column m
  front-same column (suc n) m (text ∷ row) = ap (λ (rest : List (List ℕ)). each column text ∷ rest) (front-same (column + 1) n m row)

  rows-same : (n : ℕ) (rows : List (List (List ℕ))) → map (by_column each 0) (evened n rows) ≡ evened n (map (by_column each 0) rows)
  rows-same n [] = refl
  rows-same n (row ∷ rows) =
      ap (λ (first : List (List ℕ)). first ∷ map (by_column each 0) (evened n rows))
      (front-same 0 n (n - length row) row ∙ ap (λ m. take n (by_column each 0 row) ++ replicate (n - m) []) (sym (length-each 0 row)))
      ∙ ap (λ (rest : List (List (List ℕ))). evened_row n (by_column each 0 row) ∷ rest) (rows-same n rows)

-- ---- texts

module _ (style : Compact) (asked : WidthLimit) (rows : List (List (List ℕ))) where
  abbrev resize_by : Option (List ℕ) → ℕ → Resize
  resize_by given column = resize_in style asked given column

  abbrev kept : List (List (List ℕ))
  kept = resized_rows style asked rows

  kept-filled : resized_rows style asked (filled style rows) ≡ evened (columns style rows) kept
  unfolding resized_rows
  kept-filled =
      ap (λ (given : Option (List ℕ)). map (by_column (λ column. resized_text (resize_by given column)) 0) (filled style rows)) (narrowed-filled style rows asked)
      ∙ rows-same (resize_by (narrowed style asked rows)) (columns style rows) rows

  count-kept : longest_row_length kept ≡ columns style rows
  unfolding resized_rows
  count-kept = count-each (resize_by (narrowed style asked rows)) rows

  widths-asked : asked_widths style asked (filled style rows) ≡ asked_widths style asked rows
  unfolding asked_widths
  widths-asked =
      ap (λ (natural : List ℕ). widths_or style asked natural (narrowed style asked (filled style rows))) (widths-filled style rows)
      ∙ ap (widths_or style asked (widths_of style rows)) (narrowed-filled style rows asked)

  module _ (colors : Position → Option Color) where
    abbrev text_of : List (List (List ℕ)) → List ℕ → List ℕ → List ℕ
    text_of texts widths heights = ended line_feed (frame_of (compact_look style) widths heights) (table_text (compact_look style) texts colors widths heights)

    pub text-filled : colored_text style asked colors (evened (longest_row_length rows) rows) ≡ colored_text style asked colors rows
    unfolding colored_text
    text-filled =
        let full : List (List (List ℕ)) = evened (columns style rows) kept in
        let widths : List ℕ = asked_widths style asked rows in
        let heights : heights_of style full ≡ heights_of style kept = ap (λ n. heights_of style (evened n kept)) (sym count-kept) ∙ heights-filled style kept in
        ap (λ (texts : List (List (List ℕ))). text_of texts (asked_widths style asked (filled style rows)) (heights_of style texts)) kept-filled
        ∙ ap (λ (found : List ℕ). text_of full found (heights_of style full)) widths-asked
        ∙ ap (text_of full widths) heights
        ∙ ap (λ (text : List ℕ). ended line_feed (frame_of (compact_look style) widths (heights_of style kept)) text)
        (text-alike (compact_look style) full kept colors widths (heights_of style kept) (texts-same (columns style rows) kept (omega (arith, count-kept))))
