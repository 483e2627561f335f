-- What holds of a text at each step on its way into a table: in Markdown, cut line by line, wrapped between words, and in its row.
use Rattle.std.proofs.Common.{◌==◌, ◌-◌, nat_lt, ℕ, Bool, true, false, List, [], ◌∷◌, ◌++◌, map, replicate, length, refl, if◌then◌else◌}
use Rattle.std.specs.Prelude.{codes, flat_map}
use Rattle.std.specs.List.{AllByRecursion, filter}
use Rattle.grid_records_measure.specs.TextLines.{line_width, text_lines}
use Rattle.papergrid_picture.proofs.Related.{All-append, All-map_of, All-replicate}
use Rattle.tabled_size_wrap.specs.Bytes.{cut_at, wrapped_text}
use Rattle.tabled_text.specs.Rows.{filled, filled_row, longest}
use Rattle.basinmug_columns.specs.Fitting.Fitting.{cut_line, cut_lines, ellipsis, is_not_blank, joined_lines, wrap_words, wrapped_line}
use Rattle.basinmug_columns.specs.Markdown.Documents.{with_header}
use Rattle.basinmug_columns.specs.Markdown.Escapes.{in_markdown}
use Rattle.basinmug_columns.specs.declared.rows.RowsShown.{RowsShown}
use Rattle.program_options.specs.declared.basinmug.LineStyle.{LineStyle}
use Rattle.basinmug_run.specs.Picture.Fitting.{fitted_text}
use Rattle.basinmug_run.specs.Picture.Rows.{cells_of, is_markdown, marked_rows}
use Rattle.basinmug_laws.proofs.ShownLemmas.FittedTexts.{filter-all}
use Rattle.basinmug_laws.proofs.ShownLemmas.KeptRows.{marked-all}
use Rattle.basinmug_laws.proofs.ShownLemmas.OwnBytes.{AreOwnBytes}

-- each step leaves texts of which it holds
pub record IsKeptByEach (P : List ℕ → Type 0) : Type 0 where
  pub nothing : P []
  pub append : (a b : List ℕ) → P a → P b → P (a ++ b)
  pub own : (bytes : List ℕ) → AreOwnBytes bytes → P bytes
  pub dots : P ellipsis
  pub lines : (text : List ℕ) → P text → AllByRecursion P (text_lines text)
  pub cut : (width : ℕ) (text : List ℕ) → P text → P (cut_at width text)
  pub wrapped : (width : ℕ) (keep_words : Bool) (text : List ℕ) → P text → P (wrapped_text width keep_words text)
  pub markdown : (text : List ℕ) → P text → P (in_markdown text)

module _ (P : List ℕ → Type 0) (kept : IsKeptByEach P) where
  -- ---- lines

  each-after : (f : List ℕ → List ℕ) → ((line : List ℕ) → P line → P (f line)) → (lines : List (List ℕ)) → AllByRecursion P lines → P (flat_map f lines)
  each-after f each [] all = kept.nothing
  each-after f each (line ∷ lines) all = kept.append (f line) (flat_map f lines) (each line all.0) (each-after f each lines all.1)

  lines-joined : (lines : List (List ℕ)) → AllByRecursion P lines → P (joined_lines lines)
  lines-joined [] all = kept.nothing
  lines-joined (line ∷ lines) all =
      kept.append line (flat_map (λ y. codes "\n" ++ y) lines) all.0
      (each-after (λ y. codes "\n" ++ y) (λ y is. kept.append (codes "\n") y (kept.own (codes "\n") refl) is) lines all.1)

  each-line : (change : List ℕ → List ℕ) → ((line : List ℕ) → P line → P (change line)) → (text : List ℕ) → P text → P (joined_lines (map change (text_lines text)))
  each-line change leaves text is = lines-joined (map change (text_lines text)) (All-map_of P P change leaves (text_lines text) (kept.lines text is))

  -- ---- wrapped between words, and cut line by line

  line-wrapped : (room : ℕ) (line : List ℕ) → P line → P (wrapped_line room line)
  line-wrapped room line is =
      let lines = text_lines (wrapped_text room true line) in
      lines-joined (filter is_not_blank lines) (filter-all P is_not_blank lines (kept.lines (wrapped_text room true line) (kept.wrapped room true line is)))

  line-cut : (room : ℕ) (line : List ℕ) → P line → P (cut_line room line)
  line-cut room line is = by (nat_lt room (line_width line)) (room == 0)
    where
      by : (wide none : Bool) → P (if wide then (if none then [] else cut_at (room - 1) line ++ ellipsis) else line)
      by true true = kept.nothing
      by true false = kept.append (cut_at (room - 1) line) ellipsis (kept.cut (room - 1) line is) kept.dots
      by false none = is

  pub step-wrapped : (room : ℕ) (text : List ℕ) → P text → P (wrap_words room text)
  step-wrapped room text is = each-line (wrapped_line room) (line-wrapped room) text is

  pub step-cut : (room : ℕ) (text : List ℕ) → P text → P (cut_lines room text)
  step-cut room text is = each-line (cut_line room) (line-cut room) text is

  pub step-fitted : (truncate : Bool) (room : ℕ) (text : List ℕ) → P text → P (fitted_text truncate room text)
  step-fitted true room text is = step-cut room text is
  step-fitted false room text is = step-wrapped room text is

  -- ---- rows

  abbrev Are : List (List (List ℕ)) → Type 0
  Are rows = AllByRecursion (AllByRecursion P) rows

  header-too : (header : Bool) (rows : List (List (List ℕ))) → Are rows → Are (with_header header rows)
  header-too header [] all = tt
  header-too true (row ∷ rows) all = all
  header-too false (row ∷ rows) all = (tt, all)

  cells-too : (line_style : LineStyle) (header : Bool) (shown : RowsShown) (rows : List (List (List ℕ))) → Are rows → Are (cells_of line_style header shown rows)
  cells-too line_style header shown rows all = by (is_markdown line_style)
    where
      marked : Are (marked_rows header shown rows)
      marked = marked-all P kept.dots header shown rows all

      by : (b : Bool) → Are (if b then with_header header (map (map in_markdown) (marked_rows header shown rows)) else marked_rows header shown rows)
      by true =
          header-too header (map (map in_markdown) (marked_rows header shown rows))
          (All-map_of (AllByRecursion P) (AllByRecursion P) (map in_markdown) (λ row each. All-map_of P P in_markdown kept.markdown row each) (marked_rows header shown rows) marked)
      by false = marked

  pub step-begun : (line_style : LineStyle) (header : Bool) (shown : RowsShown) (rows : List (List (List ℕ))) → Are rows → Are (filled (cells_of line_style header shown rows))
  step-begun line_style header shown rows all =
      let cells = cells_of line_style header shown rows in
      All-map_of (AllByRecursion P) (AllByRecursion P) (filled_row (longest cells))
      (λ row each. All-append P row (replicate (longest cells - length row) []) each (All-replicate P (longest cells - length row) [] kept.nothing)) cells (cells-too line_style header shown rows all)
