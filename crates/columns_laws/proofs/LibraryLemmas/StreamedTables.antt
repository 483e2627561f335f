-- The program's table without a width is what a streamed table prints that sniffs all rows.
use Rattle.std.proofs.Common.{◌≡◌, ◌+◌, ◌-◌, ◌<◌, ◌≤◌, ◌^◌, max, nat_le, nat_lt, ℕ, zero, suc, Bool, true, false, cond, inl, inr, List, [], ◌∷◌, ◌++◌, None, get_or, length, map, replicate, take, refl, ap, sym, ◌∙◌, arith, if◌then◌else◌}
use Rattle.std.specs.List.{onto_first, range_with_len, slice_split}
use Rattle.std.proofs.lemmas.Bool.{cases_lt}
use Rattle.std.proofs.lemmas.Bool.Decides.{nat_tests}
use Rattle.std.proofs.lemmas.List.{take_all}
use Rattle.std.proofs.lemmas.List.FromFn.{get_or-map-range_with_len, length-map-range_with_len}
use Rattle.ansi_scan.specs.Pieces.{pieces}
use Rattle.ansi_str.specs.StyledText.{strip}
use Rattle.grid_config.specs.Compact.{Compact}
use Rattle.grid_config.specs.Looks.{compact_look}
use Rattle.grid_config_values.specs.Spans.Spans.{extent_at}
use Rattle.grid_records_estimate.proofs.Lengths.{length-evened}
use Rattle.grid_records_estimate.specs.Estimates.{TrackNeeds, greatest}
use Rattle.grid_records_estimate.specs.Sizes.{table_heights, table_widths}
use Rattle.grid_records_estimate.specs.Sizing.{column_needs, compact_sizing, position_at, row_needs}
use Rattle.grid_records_measure.specs.CutTexts.{cut_at, truncated_text}
use Rattle.grid_records_measure.specs.TextLines.{is_line_feed, line_feed, text_height, text_width}
use Rattle.grid_records.specs.RecordRows.Truncating.{next_column, truncated_row, truncated_rows}
use Rattle.grid_records_traits.specs.Rows.{evened, evened_row}
use Rattle.grid_records_traits.proofs.EvenedRows.{length-evened_row}
use Rattle.papergrid_picture.proofs.Shown.{pieces-nothing}
use Rattle.papergrid_picture.specs.Frame.{frame_of}
use Rattle.papergrid_picture.specs.Fitting.{table_width}
use Rattle.papergrid_picture.specs.Tables.{sizes_of, table_text}
use Rattle.tabled_compact.specs.Columns.{column_width, text_in_column}
use Rattle.tabled_compact.specs.Iter.Content.{row_height}
use Rattle.tabled_compact.specs.Iter.Tables.{Streamed, content_widths, frame, height_at, printed, shown_rows, sniffed, stream_columns, width_at}
use Rattle.tabled_size.specs.Dimension.Sizes.{given_size}
use Rattle.columns_asked.proofs.Narrows.{map-below}
use Rattle.columns_asked.specs.DrawnTables.{ended, frame_under, heights_of, longest_row_length, narrow, narrowed, widths_of}
use Rattle.columns_asked.proofs.ColorsLemmas.Tables.{text-uncolored}
use Rattle.columns_run.specs.DrawnTables.{output_of}
use Rattle.columns_run.proofs.Colors.{output-uncolored}
use Rattle.columns_run.specs.Rows.{cell_parts}
use Rattle.columns_run.specs.Wanted.{Wanted}
use Rattle.columns_table.proofs.Leasts.{map-from, single-sizes}
use Rattle.columns_table.proofs.Narrowed.{text-natural}
use Rattle.columns_table.proofs.SplitRows.{high-wide, width-each}
use Rattle.columns_table.specs.Answers.{natural_text}
use Rattle.columns_laws.specs.Library.Tables.{ended_stream, sniffing}
use Rattle.columns_laws.proofs.LibraryLemmas.AlikeTexts.{text-alike}
use Rattle.columns_laws.proofs.LibraryLemmas.FilledRows.{texts-same}
use Rattle.columns_laws.proofs.LibraryLemmas.SameTexts.{empty, no-columns, no-lines}

-- ---- texts that are no wider than their column stay

text-whole : (width : ℕ) (text : List ℕ) → text_width text ≤ width → truncated_text width text ≡ text
text-whole width text fits =
    let test : nat_le (text_width text) width ≡ true = grind (arith, nat_tests, fits) in
    ap (λ b. if b then text else cut_at width text) test

next-is : (column : ℕ) → column + 2 ≤ 2 ^ 64 → next_column column ≡ column + 1
next-is column low =
    let test : nat_lt column (2 ^ 64 - 1) ≡ true = grind (arith, nat_tests, low) in
    ap (λ b. if b then column + 1 else column) test

first-whole : (width : ℕ → ℕ) (column : ℕ) (text : List ℕ) → text_width text ≤ width (column + 0) → truncated_text (width column) text ≡ text
first-whole width column text fits = let here : column + 0 ≡ column = omega arith in text-whole (width column) text (omega (arith, fits, ap width here))

row-whole : (width : ℕ → ℕ) (column : ℕ) (row : List (List ℕ)) → column + length row ≤ 2 ^ 64 → ((k : ℕ) → k < length row → text_width (get_or row k []) ≤ width (column + k)) → truncated_row width column row ≡ row
row-whole width column [] low fits = refl
row-whole width column (text ∷ []) low fits = ap (λ (t : List ℕ). t ∷ []) (first-whole width column text (fits 0 (omega arith)))
row-whole width column (text ∷ other ∷ row) low fits =
    ap (λ (t : List ℕ). t ∷ truncated_row width (next_column column) (other ∷ row)) (first-whole width column text (fits 0 (omega arith)))
    ∙ ap (λ n. text ∷ truncated_row width n (other ∷ row)) (next-is column (omega (arith, low)))
    ∙ ap (λ (rest : List (List ℕ)). text ∷ rest)
    (row-whole width (column + 1) (other ∷ row) (omega (arith, low))
    (λ k below. let there : column + suc k ≡ column + 1 + k = omega arith in omega (arith, fits (suc k) (omega (arith, below)), ap width there)))

rows-whole : (width : ℕ → ℕ) (rows : List (List (List ℕ))) → longest_row_length rows ≤ 2 ^ 64 → ((k : ℕ) → k < longest_row_length rows → column_width rows k ≤ width k) → truncated_rows width rows ≡ rows
rows-whole width [] low fits = refl
rows-whole width (row ∷ rows) low fits =
    ap (λ (first : List (List ℕ)). first ∷ truncated_rows width rows)
    (row-whole width 0 row (omega (arith, low))
    (λ k below. let there : 0 + k ≡ k = omega arith in omega (arith, fits k (omega (arith, below)), ap width there)))
    ∙ ap (λ (rest : List (List (List ℕ))). row ∷ rest) (rows-whole width rows (omega (arith, low)) (λ k below. omega (arith, fits k (omega (arith, below)))))

-- ---- the greatest of what texts take

greatest-more : {A : Type 0} (size : A → ℕ) (before behind : ℕ) (x : A) (xs : List A) → greatest (map (λ a. size a + before + behind) (x ∷ xs)) ≡ greatest (map size (x ∷ xs)) + (before + behind)
greatest-more size before behind x [] = omega arith
greatest-more size before behind x (y ∷ ys) = omega (arith, greatest-more size before behind y ys)

greatest-added : {A : Type 0} (size : A → ℕ) (before behind : ℕ) (xs : List A) → 0 < length xs → greatest (map (λ a. size a + before + behind) xs) ≡ greatest (map size xs) + (before + behind)
greatest-added size before behind [] some = absurd (omega (arith, some))
greatest-added size before behind (x ∷ xs) some = greatest-more size before behind x xs

-- ---- each text has a line

some-lines : (cs : List ℕ) → 0 < length (slice_split is_line_feed cs)
some-lines [] = omega arith
some-lines (c ∷ cs) = by (is_line_feed c) (slice_split is_line_feed cs)
  where
    by : (b : Bool) (lines : List (List ℕ)) → 0 < length (cond b ([] ∷ lines) (onto_first c lines))
    by true lines = omega arith
    by false [] = omega arith
    by false (line ∷ lines) = omega arith

one-line : (text : List ℕ) → 1 ≤ text_height text
unfolding text_height
one-line text = omega (arith, some-lines (strip (pieces text)))

nothing-high : text_height [] ≡ 1
unfolding text_height
nothing-high = ap (λ ps. length (slice_split is_line_feed (strip ps))) pieces-nothing

abbrev tallest : List (List ℕ) → ℕ
tallest row = greatest (map text_height row)

empties-low : (m : ℕ) → tallest (replicate m []) ≤ 1
empties-low zero = omega arith
empties-low (suc m) = omega (arith, nothing-high, empties-low m)

empties-one : (m : ℕ) → 0 < m → tallest (replicate m []) ≡ 1
empties-one zero some = absurd (omega (arith, some))
empties-one (suc m) some = omega (arith, nothing-high, empties-low m)

tallest-filled : (row : List (List ℕ)) (m : ℕ) → 0 < length row + m → tallest (row ++ replicate m []) ≡ max 1 (tallest row)
tallest-filled [] m some = omega (arith, empties-one m (omega (arith, some)))
tallest-filled (text ∷ []) zero some = omega (arith, one-line text)
tallest-filled (text ∷ []) (suc m) some = omega (arith, one-line text, empties-one (suc m) (omega arith))
tallest-filled (text ∷ next ∷ row) m some = omega (arith, tallest-filled (next ∷ row) m (omega arith))

-- ---- the sizes

module _ (style : Compact) (sniff : ℕ) (rows : List (List (List ℕ))) (all : length rows ≤ sniff) where
  abbrev table : Streamed
  table = sniffing sniff style rows

  abbrev n : ℕ
  n = longest_row_length rows

  sniffed-all : sniffed table ≡ rows
  sniffed-all = take_all sniff rows all

  columns-all : stream_columns table ≡ n
  columns-all = ap (λ (found : List (List (List ℕ))). greatest (map (λ row. length row) found)) sniffed-all

  abbrev beside : ℕ
  beside = style.padding.left.size + style.padding.right.size

  abbrev around : ℕ
  around = style.padding.top.size + style.padding.bottom.size

  content-is : (k : ℕ) → k < n → given_size (content_widths table) k ≡ column_width rows k
  content-is k below =
      let none : 0 + k ≡ k = omega arith in
      ap (λ (m : ℕ). get_or (map (column_width (sniffed table)) (range_with_len 0 m)) k 0) columns-all
      ∙ get_or-map-range_with_len (column_width (sniffed table)) 0 n k k 0 below none
      ∙ ap (λ (found : List (List (List ℕ))). column_width found k) sniffed-all

  rows-are : longest_row_length rows ≤ 2 ^ 64 → shown_rows table ≡ evened n rows
  rows-are low =
      ap (λ (found : List (List (List ℕ))). evened (stream_columns table) found)
      (rows-whole (given_size (content_widths table)) rows low (λ k below. let same = content-is k below in omega (arith, same)))
      ∙ ap (λ m. evened m rows) columns-all

  module _ (some : 0 < n) where
    some-rows : 0 < length rows
    some-rows = by rows some
      where
        by : (found : List (List (List ℕ))) → 0 < longest_row_length found → 0 < length found
        by [] more = absurd (omega (arith, more))
        by (row ∷ others) more = omega arith

    crossed : length (evened n rows) ≡ length rows
    crossed = length-evened n rows

    abbrev wide : TrackNeeds
    wide = column_needs (compact_sizing style) n (evened n rows)

    abbrev high : TrackNeeds
    high = row_needs (compact_sizing style) n (evened n rows)

    text-there : (i j : ℕ) → get_or (get_or (evened n rows) i []) j [] ≡ get_or (get_or rows i []) j []
    text-there i j = texts-same n rows (omega arith) (position_at i j)

    wide-seen : (j i : ℕ) → wide.is_visible j i ≡ true
    wide-seen j i = refl

    wide-one : (j i : ℕ) → wide.span j i ≡ 1
    unfolding extent_at
    wide-one j i = refl

    high-seen : (i j : ℕ) → high.is_visible i j ≡ true
    high-seen i j = refl

    high-one : (i j : ℕ) → high.span i j ≡ 1
    unfolding extent_at
    high-one i j = refl

    column-is : (j : ℕ) → greatest (map (wide.need j) (range_with_len 0 (length (evened n rows)))) ≡ column_width rows j + beside
    column-is j =
        ap (λ m. greatest (map (wide.need j) (range_with_len 0 m))) crossed
        ∙ ap greatest (map-from (wide.need j) (λ (row : List (List ℕ)). text_width (text_in_column row j) + style.padding.left.size + style.padding.right.size) [] rows 0
        (λ i below. let there : 0 + i ≡ i = omega arith in ap (wide.need j) there ∙ ap (λ (text : List ℕ). text_width text + style.padding.left.size + style.padding.right.size) (text-there i j)))
        ∙ greatest-added (λ (row : List (List ℕ)). text_width (text_in_column row j)) style.padding.left.size style.padding.right.size rows some-rows

    widths-are : sizes_of (width_at table) (stream_columns table) ≡ widths_of style rows
    unfolding table_widths
    widths-are =
        ap (sizes_of (width_at table)) columns-all
        ∙ map-below (width_at table) (λ j. column_width rows j + beside) 0 n (λ j low below. ap (λ m. m + beside) (content-is j (omega (arith, below))))
        ∙ sym (single-sizes wide wide-seen wide-one (omega (arith, crossed, some-rows))
        ∙ map-below _ (λ j. column_width rows j + beside) 0 n (λ j low below. column-is j))

    -- ---- of rows

    row-is : (row : List (List ℕ)) → length row ≤ n → greatest (map (λ j. text_height (get_or (evened_row n row) j []) + style.padding.top.size + style.padding.bottom.size) (range_with_len 0 n)) ≡ row_height n row + around
    row-is row few =
        let whole : take n row ≡ row = take_all n row few in
        let full : List (List ℕ) = row ++ replicate (n - length row) [] in
        let filled : evened_row n row ≡ full = ap (λ (front : List (List ℕ)). front ++ replicate (n - length row) []) whole in
        let long : length (evened_row n row) ≡ n = length-evened_row row n in
        let more : 0 < length row + (n - length row) = omega (arith, few, some) in
        let padded : List ℕ → ℕ = λ text. text_height text + style.padding.top.size + style.padding.bottom.size in
        ap (λ m. greatest (map (λ j. padded (get_or (evened_row n row) j [])) (range_with_len 0 m))) (sym long)
        ∙ ap greatest (map-from (λ j. padded (get_or (evened_row n row) j [])) padded [] (evened_row n row) 0
        (λ j below. let there : 0 + j ≡ j = omega arith in ap (λ k. padded (get_or (evened_row n row) k [])) there))
        ∙ greatest-added text_height style.padding.top.size style.padding.bottom.size (evened_row n row) (omega (arith, long, some))
        ∙ ap (λ (texts : List (List ℕ)). tallest texts + around) filled
        ∙ ap (λ k. k + around) (tallest-filled row (n - length row) more)
        ∙ ap (λ (texts : List (List ℕ)). max 1 (tallest texts) + around) (sym whole)

    height-from : (others : List (List (List ℕ))) (i : ℕ) → longest_row_length others ≤ n → i < length others
        → greatest (map (λ j. text_height (get_or (get_or (evened n others) i []) j []) + style.padding.top.size + style.padding.bottom.size) (range_with_len 0 n)) ≡ get_or (map (row_height n) others) i 1 + around
    height-from [] i few below = absurd (omega (arith, below))
    height-from (row ∷ others) zero few below = row-is row (omega (arith, few))
    height-from (row ∷ others) (suc i) few below = height-from others i (omega (arith, few)) (omega (arith, below))

    heights-are : sizes_of (height_at table) (length (evened n rows)) ≡ heights_of style rows
    unfolding table_heights
    heights-are =
        map-below (height_at table) (λ i. get_or (map (row_height n) rows) i 1 + around) 0 (length (evened n rows))
        (λ i low below.
        ap (λ m. get_or (map (row_height m) (sniffed table)) i 1 + around) columns-all
        ∙ ap (λ (found : List (List (List ℕ))). get_or (map (row_height n) found) i 1 + around) sniffed-all)
        ∙ sym (single-sizes high high-seen high-one some
        ∙ map-below _ (λ i. get_or (map (row_height n) rows) i 1 + around) 0 (length (evened n rows)) (λ i low below. height-from rows i (omega arith) (omega (arith, below, crossed))))

    -- ---- the text

    abbrev text_by : List (List (List ℕ)) → List ℕ → List ℕ → List ℕ
    text_by texts widths heights = ended line_feed (frame_of (compact_look style) widths heights) (table_text (compact_look style) texts (λ _. None) widths heights)

    with-columns : longest_row_length rows ≤ 2 ^ 64 → natural_text style (λ _. None) rows ≡ ended_stream table
    with-columns low =
        sym (ap (λ (texts : List (List (List ℕ))). text_by texts (sizes_of (width_at table) (stream_columns table)) (sizes_of (height_at table) (length texts))) (rows-are low)
        ∙ ap (λ (widths : List ℕ). text_by (evened n rows) widths (sizes_of (height_at table) (length (evened n rows)))) widths-are
        ∙ ap (text_by (evened n rows) (widths_of style rows)) heights-are
        ∙ ap (λ (text : List ℕ). ended line_feed (frame_under style rows) text)
        (text-alike (compact_look style) (evened n rows) rows (λ _. None) (widths_of style rows) (heights_of style rows) (texts-same n rows (omega arith))))

  -- ---- without columns

  module _ (none : n ≡ 0) where
    no-heights : length (heights_of style rows) ≡ 0
    no-heights =
        elim (cases_lt 0 (length (heights_of style rows))) [
          | inl some ↦ absurd (omega (arith, width-each style rows some, high-wide style rows some, none))
          | inr gone ↦ omega (arith, gone)
        ]

    without-columns : natural_text style (λ _. None) rows ≡ ended_stream table
    without-columns =
        sym (empty (frame_under style rows) (table_text (compact_look style) rows (λ _. None) (widths_of style rows) (heights_of style rows)) (no-lines (frame_under style rows) no-heights))
        ∙ empty (frame table) (printed table) (no-columns (frame table) (length-map-range_with_len (width_at table) 0 (stream_columns table) ∙ columns-all ∙ none))

  pub streamed-text : longest_row_length rows ≤ 2 ^ 64 → natural_text style (λ _. None) rows ≡ ended_stream table
  streamed-text low =
      elim (cases_lt 0 n) [
        | inl some ↦ with-columns some low
        | inr none ↦ without-columns (omega (arith, none))
      ]

pub one-stream : (wanted : Wanted) (input : List ℕ) (sniff : ℕ) → wanted.limit.width ≡ None → wanted.colors ≡ [] → length (cell_parts input) ≤ sniff → longest_row_length (cell_parts input) ≤ 2 ^ 64
    → output_of wanted input ≡ ended_stream (sniffing sniff wanted.style (cell_parts input))
one-stream wanted input sniff none uncolored all low =
    let texts : List (List (List ℕ)) = cell_parts input in
    let told : narrowed wanted.style wanted.limit texts ≡ None = ap (narrow wanted.style wanted.limit (widths_of wanted.style texts) (table_width (frame_under wanted.style texts))) none in
    output-uncolored wanted input uncolored ∙ sym (text-natural wanted.style wanted.limit texts told (λ _. None) ∙ text-uncolored wanted.style wanted.limit texts) ∙ streamed-text wanted.style sniff texts all low
