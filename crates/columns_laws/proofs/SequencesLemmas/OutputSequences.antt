-- The sequences of a printed table are those of the lines of its cells.
use Rattle.std.proofs.Common.{◌≡◌, ◌≢◌, ◌+◌, ◌*◌, ◌≤◌, ℕ, zero, suc, false, List, [], ◌∷◌, ◌++◌, None, Option, Some, length, map, take, get_or, replicate, refl, ap, sym, subst, ◌∙◌, arith}
use Rattle.std.specs.Prelude.{encode_utf8, flat_map, IfSome, IsUtf8}
use Rattle.std.proofs.Math.Utf8.{encode}
use Rattle.std.specs.List.{AllByRecursion, range_with_len, sum_by}
use Rattle.std.proofs.lemmas.List.{length-map, map-id, take_all}
use Rattle.std.proofs.lemmas.List.Sums.{sum_by-cons}
use Rattle.ansi_scan.specs.Pieces.{pieces}
use Rattle.ansi_scan.specs.Sequences.{IsWhole, NoneBroken, Piece as TextPiece}
use Rattle.ansi_scan.specs.declared.items.Kind.TheVariants.{Text}
use Rattle.ansi_scan.proofs.Existence.{ArePiecesOf-pieces}
use Rattle.ansi_str.specs.StyledText.{strip}
use Rattle.columns_asked.specs.DrawnTables.{asked_widths, by_column, heights_of, resized_rows, narrowed, resize_in}
use Rattle.columns_asked.proofs.Tables.{kept-whole}
use Rattle.columns_asked.specs.Colors.ColumnColors.{cell_color, column_color}
use Rattle.program_options.specs.Columns.ColumnColors.{AllClose}
use Rattle.grid_config.specs.Closing.{AreSequences}
use Rattle.grid_config.specs.Colors.{Color}
use Rattle.grid_config.specs.Compact.{Compact}
use Rattle.grid_config.specs.Looks.{Look, compact_look}
use Rattle.grid_config_values.specs.declared.position.Position.{Position}
use Rattle.grid_records_measure.specs.TextLines.{line_feed, line_measure, shown_lines, text_height, text_lines}
use Rattle.grid_records_measure.proofs.TextLines.{length-text_lines}
use Rattle.grid_records_estimate.specs.Rows.{text_at}
use Rattle.papergrid_picture.specs.Colors.ClosingColors.{ShowNothing, ShowsNothing}
use Rattle.papergrid_picture.specs.Colors.ColoredLines.{with_painted_lines}
use Rattle.papergrid_picture.proofs.ColorsLemmas.Lines.{none-shown}
use Rattle.papergrid_picture.specs.Blocks.{Grid, Part}
use Rattle.papergrid_picture.specs.CellLines.{cell_lines, cell_measures}
use Rattle.papergrid_picture.specs.Frame.{column_count, line_count, row_count}
use Rattle.papergrid_picture.specs.Picture.{PlacedPart, at, parts_of, picture_line}
use Rattle.papergrid_picture.specs.Reading.{Reading, part_items}
use Rattle.papergrid_picture.specs.Shown.{AreWholeTexts, BeginsNoSequence, ShowsOnly}
use Rattle.papergrid_picture.specs.Tables.{in_bytes, in_color, table_grid}
use Rattle.papergrid_picture.proofs.Items.{Anything, colored-anyhow}
use Rattle.papergrid_picture.proofs.Related.{parts-hold}
use Rattle.papergrid_picture.proofs.Shown.{IsClosedPart, BeginsNoSequence-feed, BeginsNoSequence-space, lines-closed_parts, pieces-nothing, whole-at}
use Rattle.papergrid_picture.proofs.Stripped.{Leaves-append, Leaves-character}
use Rattle.tabled_size_wrap.specs.Cells.Resizing.{Resize, resized_text}
use Rattle.tabled_size_wrap.proofs.Shows.{ShowsLine-closed, ShowsLine-nothing}
use Rattle.columns_run.specs.DrawnTables.{colored_line, grid_of, output_of, placed_bytes, resized_texts}
use Rattle.columns_run.specs.Narrow.{HasNarrowGlyphs}
use Rattle.columns_run.specs.Rows.{cell_parts}
use Rattle.columns_run.specs.Wanted.{Wanted}
use Rattle.columns_run.proofs.Bytes.{output-lines}
use Rattle.columns_run.proofs.Cells.{whole_cells, whole_text}
use Rattle.columns_run.proofs.Colors.{cells-silent, painted-is}
use Rattle.columns_run.proofs.Plain.{bare}
use Rattle.columns_run.proofs.Tiling.{seen-itself}
use Rattle.columns_laws.specs.Sequences.Bounds.{count_cell_lines as count_lines, color_around, color_bytes, row_colors, sequence_byte_count}
use Rattle.tabled_size_wrap.proofs.CellsLemmas.WrappedLines.{one-line}
use Rattle.columns_laws.proofs.SequencesLemmas.CellSequences.{IsOneLine, resized-taken}
use Rattle.columns_laws.proofs.SequencesLemmas.CellSums.{all-by, row_sum, rows_sum}
use Rattle.columns_laws.proofs.SequencesLemmas.CellsOfText.{cells-are_lines}
use Rattle.columns_laws.proofs.SequencesLemmas.PictureSums.{all-shown, content_weight, pieces_weight, rsum, rsum-le, rsum-none, rsum-plus}
use Rattle.columns_laws.proofs.SequencesLemmas.RunSequences.{taken-both}
use Rattle.columns_laws.proofs.SequencesLemmas.SequenceCounts.{taken-sum, taken_by, texts_take, total}

-- ---- bytes whose sequences are whole, and take so much

record Takes (bytes : List ℕ) (n : ℕ) : Type 0 where
  pub whole : NoneBroken (pieces bytes)
  pub taken : taken_by (pieces bytes) ≡ n

Takes-nothing : Takes [] 0
Takes-nothing = record { whole = subst NoneBroken (sym pieces-nothing) tt; taken = ap taken_by pieces-nothing }

Takes-append : (a b : List ℕ) (n m : ℕ) → Takes a n → Takes b m → Takes (a ++ b) (n + m)
Takes-append a b n m one two =
    let both = Leaves-append a b (strip (pieces a)) (strip (pieces b)) (record { whole = one.whole; left = refl }) (record { whole = two.whole; left = refl }) in
    record { whole = both.whole; taken = omega (arith, taken-both a b one.whole, one.taken, two.taken) }

Takes-shown : (c : ℕ) → BeginsNoSequence c → Takes (encode_utf8 c) 0
Takes-shown c is =
    let leaves = Leaves-character c is in
    let bytes = encode_utf8 c in
    record {
      whole = leaves.whole;
      taken = omega (arith, taken-sum (pieces bytes), ap (λ (xs : List ℕ). length xs) leaves.left, ap (λ (xs : List ℕ). length xs) (ArePiecesOf-pieces bytes).joins);
    }

Takes-filled : (c : ℕ) → BeginsNoSequence c → (n : ℕ) → Takes (flat_map encode_utf8 (replicate n c)) 0
Takes-filled c is zero = Takes-nothing
Takes-filled c is (suc n) = Takes-append (encode_utf8 c) (flat_map encode_utf8 (replicate n c)) 0 0 (Takes-shown c is) (Takes-filled c is n)

Takes-feed : Takes (line_feed ∷ []) 0
unfolding encode
Takes-feed = Takes-shown line_feed BeginsNoSequence-feed

-- ---- a line in a colour

strip-sequences : (ps : List TextPiece) → AllByRecursion (λ (piece : TextPiece). piece.kind ≢ Text) ps → strip ps ≡ []
strip-sequences [] none = refl
strip-sequences (p ∷ ps) none = ap (λ bytes. bytes ++ strip ps) (none-shown p.kind p.bytes none.0) ∙ strip-sequences ps none.1

Takes-all : (bytes : List ℕ) → AreSequences (pieces bytes) → Takes bytes (length bytes)
Takes-all bytes are = record {
  whole = are.whole;
  taken = omega (arith, taken-sum (pieces bytes), ap (λ (xs : List ℕ). length xs) (strip-sequences (pieces bytes) are.no_text), ap (λ (xs : List ℕ). length xs) (ArePiecesOf-pieces bytes).joins);
}

Takes-colored : (color : Option Color) (line : List ℕ) → IfSome color ShowsNothing → NoneBroken (pieces line) → Takes (colored_line color line) (taken_by (pieces line) + color_around color line)
Takes-colored None [] silent whole = record { whole = whole; taken = omega arith }
Takes-colored None (b ∷ bs) silent whole = record { whole = whole; taken = omega arith }
Takes-colored (Some color) [] silent whole = record { whole = whole; taken = omega arith }
Takes-colored (Some color) (b ∷ bs) silent whole =
    let line = b ∷ bs in
    let own = taken_by (pieces line) in
    let here : Takes line own = record { whole = whole; taken = refl } in
    let behind = Takes-append line color.suffix own (length color.suffix) here (Takes-all color.suffix silent.suffix_form) in
    let all = Takes-append color.prefix (line ++ color.suffix) (length color.prefix) (own + length color.suffix) (Takes-all color.prefix silent.prefix_form) behind in
    let sum : length color.prefix + (own + length color.suffix) ≡ own + (length color.prefix + length color.suffix) = omega arith in
    subst (Takes (in_color color line)) sum all

-- ---- sums

total-le : {A : Type 0} (f g : A → ℕ) → ((x : A) → f x ≤ g x) → (xs : List A) → total f xs ≤ total g xs
total-le f g each [] = omega arith
total-le f g each (x ∷ xs) = omega (arith, each x, total-le f g each xs)

shifted : (f : ℕ → ℕ) (a n : ℕ) → rsum f (a + 1) n ≡ rsum (λ k. f (k + 1)) a n
shifted f a zero = refl
shifted f a (suc n) = ap (λ rest. f (a + 1) + rest) (shifted f (a + 1) n)

-- the elements of a list by their numbers, and past its end one that counts nothing
over-list : {X : Type 0} (h : X → ℕ) (d : X) → h d ≡ 0 → (xs : List X) (n : ℕ) → rsum (λ k. h (get_or xs k d)) 0 n ≤ total h xs
over-list h d none [] n = let all = rsum-none (λ k. h (get_or [] k d)) 0 n (λ k low high. none) in omega (arith, all)
over-list h d none (x ∷ xs) zero = omega arith
over-list h d none (x ∷ xs) (suc n) =
    let next : rsum (λ k. h (get_or (x ∷ xs) (k + 1) d)) 0 n ≤ rsum (λ k. h (get_or xs k d)) 0 n =
    rsum-le (λ k. h (get_or (x ∷ xs) (k + 1) d)) (λ k. h (get_or xs k d)) 0 n (λ k low high. let more : k + 1 ≡ suc k = omega arith in let e = ap (λ (m : ℕ). h (get_or (x ∷ xs) m d)) more in omega (arith, e)) in
    omega (arith, shifted (λ k. h (get_or (x ∷ xs) k d)) 0 n, next, over-list h d none xs n)

-- the cells of a row, each by its column too
over-row : (h : ℕ → List ℕ → ℕ) → ((j : ℕ) → h j [] ≡ 0) → (row : List (List ℕ)) (first n : ℕ) → rsum (λ k. h (first + k) (get_or row k [])) 0 n ≤ row_sum h first row
over-row h none [] first n = let all = rsum-none (λ k. h (first + k) (get_or [] k [])) 0 n (λ k low high. none (first + k)) in omega (arith, all)
over-row h none (x ∷ xs) first zero = omega arith
over-row h none (x ∷ xs) first (suc n) =
    let here : first + 0 ≡ first = omega arith in
    let one : h (first + 0) x ≡ h first x = ap (λ (j : ℕ). h j x) here in
    let next : rsum (λ k. h (first + (k + 1)) (get_or (x ∷ xs) (k + 1) [])) 0 n ≤ rsum (λ k. h (first + 1 + k) (get_or xs k [])) 0 n =
    rsum-le (λ k. h (first + (k + 1)) (get_or (x ∷ xs) (k + 1) [])) (λ k. h (first + 1 + k) (get_or xs k [])) 0 n
    (λ k low high.
    let more : k + 1 ≡ suc k = omega arith in
    let place : first + (k + 1) ≡ first + 1 + k = omega arith in
    let e = ap (λ (m : ℕ). h (first + (k + 1)) (get_or (x ∷ xs) m [])) more ∙ ap (λ (j : ℕ). h j (get_or xs k [])) place in
    omega (arith, e)) in
    omega (arith, one, shifted (λ k. h (first + k) (get_or (x ∷ xs) k [])) 0 n, next, over-row h none xs (first + 1) n)

past-end : (lines : List (List ℕ)) → get_or lines (length lines) [] ≡ []
past-end [] = refl
past-end (line ∷ lines) = past-end lines

-- ---- a picture

-- the lines of a cell as they are printed
same-lines : (text : List ℕ) → cell_lines false false text ≡ text_lines text
unfolding text_height
same-lines text =
    let lines = text_lines text in
    let all : length lines ≤ length (shown_lines (pieces text)) = omega (arith, length-text_lines text) in
    map-id _ ∙ take_all (length (shown_lines (pieces text))) lines all

same-count : (text : List ℕ) → length (cell_measures false false text) ≡ length (text_lines text)
unfolding text_height
same-count text =
    let shown = shown_lines (pieces text) in
    let all : length shown ≤ length shown = omega arith in
    length-map (take (length shown) shown) line_measure ∙ ap (λ (found : List (List ℕ)). length found) (take_all (length shown) shown all) ∙ sym (length-text_lines text)

module _ (style : Compact) (texts : List (List (List ℕ))) (colors : List (ℕ × Color)) (widths heights : List ℕ) (whole : AreWholeTexts texts) (silent : ShowNothing (cell_color colors)) (shown : ShowsOnly BeginsNoSequence (compact_look style)) where
  abbrev look : Look
  look = compact_look style

  abbrev grid : Grid
  grid = table_grid look texts (λ _. None) widths heights

  abbrev reading : Reading ℕ
  reading = with_painted_lines (in_bytes look texts) (cell_color colors)

  abbrev line_of : Position → ℕ → List ℕ
  line_of cell k = get_or (cell_lines false false (text_at texts cell)) k []

  -- what line k of a cell takes, and what its colour adds
  abbrev own : Position → ℕ → ℕ
  own cell k = taken_by (pieces (line_of cell k))

  abbrev extra : Position → ℕ → ℕ
  extra cell k = color_around (cell_color colors cell) (line_of cell k)

  abbrev weight : Position → ℕ → ℕ
  weight cell k = own cell k + extra cell k

  line-whole : (cell : Position) (k : ℕ) → NoneBroken (pieces (get_or (cell_lines false false (text_at texts cell)) k []))
  line-whole cell k =
      let text = text_at texts cell in
      subst (λ (lines : List (List ℕ)). NoneBroken (pieces (get_or lines k []))) (sym (same-lines text)) (by (text_lines text) (lines-closed_parts text (whole-at texts whole cell)) k)
    where
      by : (lines : List (List ℕ)) → AllByRecursion IsClosedPart lines → (k : ℕ) → NoneBroken (pieces (get_or lines k []))
      by [] all k = subst NoneBroken (sym pieces-nothing) tt
      by (line ∷ lines) all zero = all.0.closed.none_broken
      by (line ∷ lines) all (suc k) = by lines all.1 k

  abbrev PartTakes : Part → Type 0
  PartTakes part = Takes (part_items reading part) (content_weight weight part.content)

  parts-take : (y : ℕ) → AllByRecursion PartTakes (parts_of (picture_line grid y))
  parts-take y =
      parts-hold PartTakes BeginsNoSequence Anything grid BeginsNoSequence-space
      (λ width c color is _. Takes-filled c is width) (λ width c color is _. Takes-filled c is width)
      (λ cell k.
      subst (λ (bytes : List ℕ). Takes bytes (weight cell k)) (sym (painted-is look texts (cell_color colors cell) (line_of cell k)))
      (Takes-colored (cell_color colors cell) (line_of cell k) (silent cell) (line-whole cell k)))
      shown (colored-anyhow look) y

  pieces-take : (found : List PlacedPart) → AllByRecursion PartTakes (parts_of found) → Takes (flat_map (λ piece. part_items reading piece.part) found) (pieces_weight weight found)
  pieces-take [] all = Takes-nothing
  pieces-take (piece ∷ found) all =
      Takes-append (part_items reading piece.part) (flat_map (λ piece. part_items reading piece.part) found) (content_weight weight piece.part.content) (pieces_weight weight found) all.0 (pieces-take found all.1)

  abbrev line_at : ℕ → List ℕ
  line_at y = flat_map (λ piece. part_items reading piece.part) (picture_line grid y)

  lines-take : (a n : ℕ) → Takes (flat_map (λ y. line_at y ++ line_feed ∷ []) (range_with_len a n)) (rsum (λ y. pieces_weight weight (picture_line grid y)) a n)
  lines-take a zero = Takes-nothing
  lines-take a (suc n) =
      let here = pieces-take (picture_line grid a) (parts-take a) in
      let line = Takes-append (line_at a) (line_feed ∷ []) (pieces_weight weight (picture_line grid a)) 0 here Takes-feed in
      let more = lines-take (a + 1) n in
      let all = Takes-append (line_at a ++ line_feed ∷ []) (flat_map (λ y. line_at y ++ line_feed ∷ []) (range_with_len (a + 1) n)) (pieces_weight weight (picture_line grid a) + 0) (rsum (λ y. pieces_weight weight (picture_line grid y)) (a + 1) n) line more in
      let sum : pieces_weight weight (picture_line grid a) + 0 + rsum (λ y. pieces_weight weight (picture_line grid y)) (a + 1) n ≡ pieces_weight weight (picture_line grid a) + rsum (λ y. pieces_weight weight (picture_line grid y)) (a + 1) n = omega arith in
      subst (Takes (flat_map (λ y. line_at y ++ line_feed ∷ []) (range_with_len a (suc n)))) sum all

  line-behind : (cell : Position) → line_of cell (length (grid.measures cell)) ≡ []
  line-behind cell =
      let text = text_at texts cell in
      ap (λ (lines : List (List ℕ)). get_or lines (length (cell_measures false false text)) []) (same-lines text)
      ∙ ap (λ (n : ℕ). get_or (text_lines text) n []) (same-count text)
      ∙ past-end (text_lines text)

  behind : (cell : Position) → weight cell (length (grid.measures cell)) ≡ 0
  behind cell = ap (λ (bytes : List ℕ). taken_by (pieces bytes) + color_around (cell_color colors cell) bytes) (line-behind cell) ∙ ap (λ (ps : List TextPiece). taken_by ps + 0) pieces-nothing

  -- ---- cell by cell

  abbrev text_taken : List ℕ → ℕ
  text_taken text = rsum (λ k. taken_by (pieces (get_or (cell_lines false false text) k []))) 0 (length (cell_measures false false text))

  no-bytes : taken_by (pieces []) ≡ 0
  no-bytes = ap taken_by pieces-nothing

  text-within : (text : List ℕ) → text_taken text ≤ texts_take (text_lines text)
  text-within text =
      let count = length (cell_measures false false text) in
      let within = over-list (λ (line : List ℕ). taken_by (pieces line)) [] no-bytes (cell_lines false false text) count in
      omega (arith, within, ap texts_take (same-lines text))

  text-none : text_taken [] ≡ 0
  text-none =
      let one = one-line [] (ShowsLine-closed [] [] ShowsLine-nothing) in
      let none = no-bytes in
      omega (arith, text-within [], ap texts_take one, none)

  abbrev row_taken : List (List ℕ) → ℕ
  row_taken row = rsum (λ j. text_taken (get_or row j [])) 0 (column_count grid.frame)

  row-none : row_taken [] ≡ 0
  row-none = rsum-none (λ j. text_taken (get_or [] j [])) 0 (column_count grid.frame) (λ j low high. text-none)

  row-within : (row : List (List ℕ)) → row_taken row ≤ total (λ text. texts_take (text_lines text)) row
  row-within row =
      let first = over-list text_taken [] text-none row (column_count grid.frame) in
      let second = total-le text_taken (λ text. texts_take (text_lines text)) text-within row in
      omega (arith, first, second)

  abbrev over_cells : (Position → ℕ → ℕ) → ℕ
  over_cells w = rsum (λ i. rsum (λ j. rsum (w (at i j)) 0 (length (grid.measures (at i j)))) 0 (column_count grid.frame)) 0 (row_count grid.frame)

  apart : over_cells weight ≡ over_cells own + over_cells extra
  apart =
      (λ t. rsum (λ i. rsum (λ j. rsum-plus (own (at i j)) (extra (at i j)) 0 (length (grid.measures (at i j))) t) 0 (column_count grid.frame)) 0 (row_count grid.frame))
      ∙ (λ t. rsum (λ i. rsum-plus (λ j. rsum (own (at i j)) 0 (length (grid.measures (at i j)))) (λ j. rsum (extra (at i j)) 0 (length (grid.measures (at i j)))) 0 (column_count grid.frame) t) 0 (row_count grid.frame))
      ∙ rsum-plus (λ i. rsum (λ j. rsum (own (at i j)) 0 (length (grid.measures (at i j)))) 0 (column_count grid.frame))
      (λ i. rsum (λ j. rsum (extra (at i j)) 0 (length (grid.measures (at i j)))) 0 (column_count grid.frame)) 0 (row_count grid.frame)

  -- ---- what the colours add

  abbrev text_colors : ℕ → List ℕ → ℕ
  text_colors column text = total (color_around (column_color colors column)) (text_lines text)

  no-text : (column : ℕ) → text_colors column [] ≡ 0
  no-text column = ap (total (color_around (column_color colors column))) (one-line [] (ShowsLine-closed [] [] ShowsLine-nothing))

  cell-colors : (i j : ℕ) → rsum (extra (at i j)) 0 (length (grid.measures (at i j))) ≤ text_colors j (text_at texts (at i j))
  cell-colors i j =
      let text = text_at texts (at i j) in
      let within = over-list (color_around (column_color colors j)) [] refl (cell_lines false false text) (length (cell_measures false false text)) in
      omega (arith, within, ap (total (color_around (column_color colors j))) (same-lines text))

  row-colors : (i : ℕ) → rsum (λ j. rsum (extra (at i j)) 0 (length (grid.measures (at i j)))) 0 (column_count grid.frame) ≤ row_sum text_colors 0 (get_or texts i [])
  row-colors i =
      let row = get_or texts i [] in
      let first =
      rsum-le (λ j. rsum (extra (at i j)) 0 (length (grid.measures (at i j)))) (λ k. text_colors (0 + k) (get_or row k [])) 0 (column_count grid.frame)
      (λ j low high. let here : 0 + j ≡ j = omega arith in let same = ap (λ (column : ℕ). text_colors column (get_or row j [])) here in omega (arith, same, cell-colors i j)) in
      omega (arith, first, over-row text_colors no-text row 0 (column_count grid.frame))

  colors-within : over_cells extra ≤ total (row_sum text_colors 0) texts
  colors-within =
      let first =
      rsum-le (λ i. rsum (λ j. rsum (extra (at i j)) 0 (length (grid.measures (at i j)))) 0 (column_count grid.frame)) (λ i. row_sum text_colors 0 (get_or texts i [])) 0 (row_count grid.frame) (λ i low high. row-colors i) in
      omega (arith, first, over-list (row_sum text_colors 0) [] refl texts (row_count grid.frame))

  cells-within : over_cells own ≤ total (total (λ text. texts_take (text_lines text))) texts
  cells-within =
      let first = over-list row_taken [] row-none texts (row_count grid.frame) in
      let second = total-le row_taken (total (λ text. texts_take (text_lines text))) row-within texts in
      omega (arith, first, second)

  pub output-within : (n : ℕ) → n ≡ line_count grid.frame → taken_by (pieces (flat_map (λ y. line_at y ++ line_feed ∷ []) (range_with_len 0 n)))
      ≤ total (total (λ text. texts_take (text_lines text))) texts + total (row_sum text_colors 0) texts
  output-within n same =
      let takes = lines-take 0 n in
      let shows = all-shown weight grid behind (seen-itself style texts widths heights) in
      omega (arith, takes.taken, ap (rsum (λ y. pieces_weight weight (picture_line grid y)) 0) same, shows, apart, cells-within, colors-within)

-- ---- the texts that are kept

module _ (g : ℕ → List ℕ → List ℕ) (h : List ℕ → ℕ) where
  row-kept : (column : ℕ) (row : List (List ℕ)) → total h (by_column g column row) ≡ row_sum (λ j cell. h (g j cell)) column row
  row-kept column [] = refl
  row-kept column (cell ∷ row) = ap (λ rest. h (g column cell) + rest) (row-kept (column + 1) row)

  pub rows-kept : (rows : List (List (List ℕ))) → total (total h) (map (by_column g 0) rows) ≡ rows_sum (λ j cell. h (g j cell)) rows
  rows-kept [] = refl
  rows-kept (row ∷ rows) = ap (λ first. first + total (total h) (map (by_column g 0) rows)) (row-kept 0 row) ∙ ap (λ rest. row_sum (λ j cell. h (g j cell)) 0 row + rest) (rows-kept rows)

total-sum : {A : Type 0} (f : A → ℕ) (xs : List A) → total f xs ≡ sum_by f xs
total-sum f [] = refl
total-sum f (x ∷ xs) = ap (λ rest. f x + rest) (total-sum f xs) ∙ sym (sum_by-cons f x xs)

count-same : (rows : List (List (List ℕ))) → total (total text_height) rows ≡ count_lines rows
count-same [] = refl
count-same (row ∷ rows) = ap (λ first. first + total (total text_height) rows) (total-sum text_height row) ∙ ap (λ rest. sum_by text_height row + rest) (count-same rows) ∙ sym (sum_by-cons (λ (row : List (List ℕ)). sum_by text_height row) row rows)

-- ---- what the colours add to all cells

module _ (colors : List (ℕ × Color)) where
  row-colored : (column : ℕ) (row : List (List ℕ)) → row_sum (λ j text. total (color_around (column_color colors j)) (text_lines text)) column row ≡ row_colors colors column row
  row-colored column [] = refl
  row-colored column (text ∷ row) =
      ap (λ first. first + row_sum (λ j text. total (color_around (column_color colors j)) (text_lines text)) (column + 1) row) (total-sum (color_around (column_color colors column)) (text_lines text))
      ∙ ap (λ rest. sum_by (color_around (column_color colors column)) (text_lines text) + rest) (row-colored (column + 1) row)

  rows-colored : (rows : List (List (List ℕ))) → total (row_sum (λ j text. total (color_around (column_color colors j)) (text_lines text)) 0) rows ≡ color_bytes colors rows
  rows-colored [] = refl
  rows-colored (row ∷ rows) =
      ap (λ first. first + total (row_sum (λ j text. total (color_around (column_color colors j)) (text_lines text)) 0) rows) (row-colored 0 row)
      ∙ ap (λ rest. row_colors colors 0 row + rest) (rows-colored rows) ∙ sym (sum_by-cons (row_colors colors 0) row rows)

none-around : (lines : List (List ℕ)) → sum_by (color_around None) lines ≡ 0
none-around [] = refl
none-around ([] ∷ lines) = let rest = none-around lines in omega (arith, sum_by-cons (color_around None) [] lines, rest)
none-around ((b ∷ bs) ∷ lines) = let rest = none-around lines in omega (arith, sum_by-cons (color_around None) (b ∷ bs) lines, rest)

row-uncolored : (column : ℕ) (row : List (List ℕ)) → row_colors [] column row ≡ 0
row-uncolored column [] = refl
row-uncolored column (text ∷ row) = let one = none-around (text_lines text) in let rest = row-uncolored (column + 1) row in omega (arith, one, rest)

pub no-colors : (rows : List (List (List ℕ))) → color_bytes [] rows ≡ 0
no-colors [] = refl
no-colors (row ∷ rows) = let one = row-uncolored 0 row in let rest = no-colors rows in omega (arith, sum_by-cons (row_colors [] 0) row rows, one, rest)

-- ---- the table of a text

pub few-sequences : (wanted : Wanted) (input : List ℕ) → HasNarrowGlyphs wanted.style → AllClose wanted.colors → IsUtf8 input → IsWhole input
    → sequence_byte_count (output_of wanted input) ≤ sequence_byte_count input + 243 * count_lines (resized_texts wanted input) + color_bytes wanted.colors (resized_texts wanted input)
unfolding output_of grid_of resized_texts resized_rows placed_bytes
few-sequences wanted input narrow close utf8 whole =
    let style = wanted.style in
    let asked = wanted.limit in
    let rows = cell_parts input in
    let is = whole_text input utf8 whole in
    let none_broken : NoneBroken (pieces input) = is.none_broken in
    let resize : ℕ → Resize = resize_in style asked (narrowed style asked rows) in
    let kept = resized_rows style asked rows in
    let widths = asked_widths style asked rows in
    let heights = heights_of style kept in
    let out = ap sequence_byte_count (output-lines wanted input narrow) in
    let within = output-within style kept wanted.colors widths heights (kept-whole style asked rows (whole_cells input is)) (cells-silent wanted.colors close) (bare style narrow).shown (line_count (table_grid (compact_look style) kept (λ _. None) widths heights).frame) refl in
    let taken = rows-kept (λ j. resized_text (resize j)) (λ text. texts_take (text_lines text)) rows in
    let counted = rows-kept (λ j. resized_text (resize j)) text_height rows in
    let cells = all-by input none_broken IsOneLine (λ j cell. texts_take (text_lines (resized_text (resize j) cell))) (λ j cell. text_height (resized_text (resize j) cell))
    (λ column a b ordered one. resized-taken input none_broken a b ordered one (resize column)) (cells-are_lines input is) in
    omega (arith, out, within, taken, cells, counted, count-same kept, rows-colored wanted.colors kept)
