-- What the program writes of equally long rows in a width is what a table of the library prints after the step that
-- makes it narrower.
use Rattle.std.proofs.Common.{◌≡◌, ◌==◌, ◌&&◌, ◌+◌, ◌-◌, ◌<◌, ◌≤◌, min, nat_le, not, ℕ, zero, suc, Bool, true, false, List, [], ◌∷◌, Option, None, Some, Result, nat_lt, Ok, Global as Heap, inl, inr, drop, get_or, length, map, slice_index, sum, take, unwrap_or, refl, ap, sym, subst, ◌∙◌, arith, if◌then◌else◌}
use Rattle.std.specs.List.{range_with_len}
use Rattle.std.proofs.lemmas.Bool.Decides.{nat_tests}
use Rattle.std.proofs.lemmas.List.{length-map}
use Rattle.grid_config.specs.Colors.{Color}
use Rattle.grid_config.specs.Compact.{Compact}
use Rattle.grid_config.specs.Looks.{Look, compact_look}
use Rattle.grid_config_values.specs.Spans.Spans.{extent_at}
use Rattle.grid_config_values.specs.Entities.{covered_positions}
use Rattle.grid_config_values.specs.declared.entity.Entity.{Entity}
use Rattle.grid_config_values.specs.declared.entity.Entity.TheVariants.{Global}
use Rattle.grid_config_values.specs.declared.fault.Fault.{Fault}
use Rattle.grid_config_values.specs.declared.position.Position.{Position}
use Rattle.grid_records_estimate.proofs.Lengths.{length-table_heights}
use Rattle.grid_records_estimate.specs.Sizing.{compact_sizing, position_at}
use Rattle.grid_records_measure.specs.TextLines.{line_feed}
use Rattle.grid_records_traits.specs.Rows.{row_at}
use Rattle.papergrid_picture.proofs.ByNumber.{by_number}
use Rattle.papergrid_picture.specs.Fitting.{table_width}
use Rattle.papergrid_picture.specs.Frame.{frame_of}
use Rattle.papergrid_picture.specs.Tables.{table_text}
use Rattle.tabled_size_wrap.specs.Cells.Resizing.{Cut, Resize, Wrap, resized_text}
use Rattle.std.specs.Prelude.{String, string_bytes}
use Rattle.std.proofs.lemmas.Bool.{cases_lt}
use Rattle.grid_config_values.specs.declared.entity.Entity.TheVariants.{Row}
use Rattle.grid_records_measure.specs.CutTexts.{cut_at, truncated_text}
use Rattle.grid_records_measure.specs.TextLines.{text_width}
use Rattle.tabled_list.specs.Amounts.{width_of}
use Rattle.tabled_list.specs.Priorities.{measured_so, shrinks_so}
use Rattle.tabled_list.specs.Settings.{cutting_by, setting_step}
use Rattle.tabled_list.specs.declared.amount.Amount.TheVariants.{Exact}
use Rattle.tabled_list.specs.declared.setting.Setting.TheVariants.{Truncate, Wrap as WrapTable}
use Rattle.tabled_size.specs.declared.dimension.suffix.SuffixLimit.{SuffixLimit}
use Rattle.tabled_text.specs.Rows.{filled}
use Rattle.tabled_width_texts.specs.WrappedOrCut.{wrapping_each}
use Rattle.tabled_width_texts.specs.Cutting.{truncating}
use Rattle.columns_asked.specs.Colors.ColoredTables.{colored_text}
use Rattle.columns_asked.specs.Colors.ColumnColors.{cell_color}
use Rattle.columns_run.specs.DrawnTables.{output_of}
use Rattle.columns_run.specs.Rows.{cell_parts}
use Rattle.columns_run.specs.Wanted.{Wanted}
use Rattle.columns_table.proofs.Narrowed.{some-of-table}
use Rattle.columns_laws.specs.Library.Tables.{ended_table, table_of}
use Rattle.columns_laws.proofs.LibraryLemmas.FilledRows.{filled-is, long-evened}
use Rattle.columns_laws.proofs.LibraryLemmas.FilledTables.{text-filled}
use Rattle.tabled_size.specs.Dimension.Stored.{Stored, kept_after, none_stored}
use Rattle.tabled_size_priority.specs.Choices.{IsShrunkByChoice}
use Rattle.tabled_steps.proofs.ChangedTexts.{row-count, text-at, text-count}
use Rattle.tabled_steps.specs.Changes.{changed_rows}
use Rattle.tabled_steps.specs.Sizes.{natural_heights, natural_widths}
use Rattle.tabled_steps.specs.States.{Settles, State, column_count, state_with}
use Rattle.tabled_list.specs.Stripping.Printing.{drawn_frame, drawn_heights, drawn_widths, printed}
use Rattle.tabled_width.specs.WholeTables.Rooms.{boundaries_between, span_width, column_widths, in_room, text_room}
use Rattle.tabled_width.specs.WholeTables.Tables.{NarrowsTable, TableSizes, has_cells, keeping, narrowed_state as narrowed_table}
use Rattle.tabled_width.specs.WholeTables.Widths.{width_with_columns as columns_width}
use Rattle.tabled.specs.Narrowed.{GivesOnly}
use Rattle.columns_asked.proofs.Narrows.{narrowed-none, shrunk-length}
use Rattle.columns_asked.proofs.Shrunk.{shrunk_list-meets, shrunk_list-one}
use Rattle.columns_asked.specs.declared.asked.WidthLimit.{WidthLimit}
use Rattle.columns_asked.specs.DrawnTables.{asked_widths, by_column, ended, frame_under, heights_of, longest_row_length, narrow, narrowed, paddings, resize_in, widths_of}
use Rattle.columns_asked.specs.Shrunk.{shrunk_list}
use Rattle.columns_table.proofs.AskedWidths.{one-taken, padded}
use Rattle.columns_table.proofs.Narrowed.{kept-is, text-natural, widths-are}
use Rattle.columns_table.proofs.SplitRows.{height-each, width-each, width-total}
use Rattle.columns_laws.proofs.BoundsLemmas.TableBounds.{least-is as least-at, narrow-keeps}
use Rattle.columns_laws.specs.Library.Tables.{AreRowsOfLength, table_under}
use Rattle.columns_laws.proofs.LibraryLemmas.FilledTables.{length-each}
use Rattle.columns_laws.proofs.LibraryLemmas.EmptyWidths.{empty-is}
use Rattle.columns_laws.proofs.LibraryLemmas.NarrowSteps.{AreEstimated, HasNarrowed, cells-there, fresh, gave, leasts, left-is, no_cells, stayed}
use Rattle.columns_laws.proofs.LibraryLemmas.SameSizes.{counts-same, seen}
use Rattle.columns_laws.proofs.LibraryLemmas.SameTexts.{natural-heights, natural-widths, texts-same}

-- ---- rows by their places

row-by : (f : ℕ → List ℕ → List ℕ) (first : ℕ) (found row : List (List ℕ)) → length found ≡ length row → ((j : ℕ) → j < length row → get_or found j [] ≡ f (first + j) (get_or row j [])) → found ≡ by_column f first row
row-by f first [] [] same each = refl
row-by f first (text ∷ found) [] same each = absurd (omega (arith, same))
row-by f first [] (text ∷ row) same each = absurd (omega (arith, same))
row-by f first (text ∷ found) (old ∷ row) same each =
    let here : first + 0 ≡ first = omega arith in
    ap (λ (t : List ℕ). t ∷ found) (each 0 (omega arith) ∙ ap (λ k. f k old) here)
    ∙ ap (λ (rest : List (List ℕ)). f first old ∷ rest)
    (row-by f (first + 1) found row (omega (arith, same))
    (λ j below. let there : first + suc j ≡ first + 1 + j = omega arith in each (suc j) (omega (arith, below)) ∙ ap (λ k. f k (get_or row j [])) there))

rows-by : (f : List (List ℕ) → List (List ℕ)) (found rows : List (List (List ℕ))) → length found ≡ length rows → ((i : ℕ) → i < length rows → get_or found i [] ≡ f (get_or rows i [])) → found ≡ map f rows
rows-by f [] [] same each = refl
rows-by f (row ∷ found) [] same each = absurd (omega (arith, same))
rows-by f [] (row ∷ rows) same each = absurd (omega (arith, same))
rows-by f (row ∷ found) (old ∷ rows) same each =
    ap (λ (r : List (List ℕ)). r ∷ found) (each 0 (omega arith))
    ∙ ap (λ (rest : List (List (List ℕ))). f old ∷ rest) (rows-by f found rows (omega (arith, same)) (λ i below. each (suc i) (omega (arith, below))))

row-long : (n : ℕ) (rows : List (List (List ℕ))) → AreRowsOfLength n rows → (i : ℕ) → i < length rows → length (get_or rows i []) ≡ n
row-long n [] long i below = absurd (omega (arith, below))
row-long n (row ∷ rows) long zero below = long.0
row-long n (row ∷ rows) long (suc i) below = row-long n rows long.1 i (omega (arith, below))

first-long : (n : ℕ) (rows : List (List (List ℕ))) → AreRowsOfLength n rows → 0 < length rows → column_count rows ≡ n
first-long n [] long some = absurd (omega (arith, some))
first-long n (row ∷ rows) long some = long.0

rows-long : (n : ℕ) (resize : ℕ → Resize) (rows : List (List (List ℕ))) → AreRowsOfLength n rows → AreRowsOfLength n (map (by_column (λ column. resized_text (resize column)) 0) rows)
rows-long n resize [] long = tt
rows-long n resize (row ∷ rows) long = (length-each resize 0 row ∙ long.0, rows-long n resize rows long.1)

-- ---- a table of this look

module _ (style : Compact) where
  abbrev pub look : Look
  look = compact_look style

  abbrev pub text_of : State → List ℕ
  text_of s = ended line_feed (drawn_frame s) (printed s)

  abbrev keeps : (Position → Option Color) → List (List (List ℕ)) → Stored → State
  keeps colors rows sizes = state_with rows look colors sizes

  abbrev both : List ℕ → Option (List ℕ) → Stored
  both widths heights = record { widths = Some widths; heights = heights }

  -- kept sizes that are the natural ones
  naturals-kept : (colors : Position → Option Color) (rows : List (List (List ℕ))) (widths heights : List ℕ) → widths ≡ natural_widths look (column_count rows) rows → heights ≡ natural_heights look (column_count rows) rows
      → text_of (keeps colors rows (both widths (Some heights))) ≡ text_of (keeps colors rows none_stored)
  naturals-kept colors rows widths heights wide high =
      ap (λ (found : List ℕ). text_of (keeps colors rows (both found (Some heights)))) wide
      ∙ ap (λ (found : List ℕ). text_of (keeps colors rows (both (natural_widths look (column_count rows) rows) (Some found)))) high

  widths-kept : (colors : Position → Option Color) (rows : List (List (List ℕ))) (widths : List ℕ) → widths ≡ natural_widths look (column_count rows) rows
      → text_of (keeps colors rows (both widths None)) ≡ text_of (keeps colors rows none_stored)
  widths-kept colors rows widths wide = ap (λ (found : List ℕ). text_of (keeps colors rows (both found None))) wide

  -- ---- the columns of a cell

  cell-columns : (widths : List ℕ) (p : Position) → p.col < length widths → span_width look widths p ≡ slice_index widths p.col
  unfolding extent_at
  cell-columns widths p inside =
      let one : min 1 (length widths - p.col) ≡ 1 = omega (arith, inside) in
      let by : ℕ → ℕ = λ taken. sum (take taken (drop p.col widths)) + boundaries_between look (length widths) p.col taken in
      let here : by 1 ≡ slice_index widths p.col = omega (arith, one-taken widths p.col inside) in
      ap by one ∙ here

  text_room-is : (least widths : List ℕ) (p : Position) → p.col < length least → p.col < length widths → slice_index least p.col ≤ slice_index widths p.col
      → text_room look least widths p ≡ Some (slice_index widths p.col - paddings style)
  text_room-is least widths p within inside enough =
      let room_in : Bool → ℕ → Option ℕ = λ seen size. if seen && nat_le (span_width look least p) size then Some (size - paddings style) else None in
      let size : ℕ = slice_index widths p.col in
      let low : span_width look least p ≤ size = omega (arith, cell-columns least p within, enough) in
      let wide : nat_le (span_width look least p) size ≡ true = grind (arith, nat_tests, low) in
      ap (λ b. room_in b (span_width look widths p)) (seen style p) ∙ ap (room_in true) (cell-columns widths p inside)
      ∙ ap (λ b. if b then Some (size - paddings style) else None) wide

-- ---- a table in a width

module _ (style : Compact) (asked : WidthLimit) (n : ℕ) (rows : List (List (List ℕ))) (long : AreRowsOfLength n rows) where
  abbrev count : ℕ
  count = column_count rows

  abbrev natural : List ℕ
  natural = widths_of style rows

  abbrev total : ℕ
  total = table_width (frame_under style rows)

  unchanged : (colors : Position → Option Color) → narrowed style asked rows ≡ None → text_of style (table_under style colors rows) ≡ colored_text style asked colors rows
  unchanged colors told = sym (texts-same style n rows long colors) ∙ text-natural style asked rows told colors

  pub natural-is : natural_widths (look style) count rows ≡ natural
  natural-is = natural-widths style n rows long

  -- ---- with cells

  module _ (some_rows : 0 < length rows) (some_columns : 0 < count) where
    columns-are : longest_row_length rows ≡ count
    columns-are = counts-same n rows long

    high : 0 < length (heights_of style rows)
    high =
        let some : 0 < longest_row_length rows = omega (arith, columns-are, some_columns) in
        omega (arith, length-table_heights (compact_sizing style) (longest_row_length rows) rows some, some_rows)

    pub wide-each : length natural ≡ count
    wide-each = width-each style rows high ∙ columns-are

    pub whole-is : columns_width (look style) (column_widths count (natural_widths (look style) count rows)) ≡ total
    whole-is =
        let wide : 0 < length natural = omega (arith, wide-each, some_columns) in
        ap (λ (widths : List ℕ). columns_width (look style) (column_widths count widths)) natural-is
        ∙ ap (columns_width (look style)) (by_number natural count wide-each)
        ∙ width-total style natural (heights_of style rows) wide high

    -- ---- its columns shrink

    module _ (left : List ℕ) (told : narrowed style asked rows ≡ Some left) (many : length left ≡ count) (enough : (k : ℕ) → k < count → paddings style ≤ slice_index left k)
        (change : ℕ → List ℕ → Option (List ℕ)) (turned : (width : ℕ) (text : List ℕ) → unwrap_or (change width text) text ≡ resized_text (if asked.truncate then Cut width else Wrap width asked.keep_words) text) where
      abbrev least : List ℕ
      least = map (λ _. paddings style) natural

      abbrev resize : ℕ → Resize
      resize column = resize_in style asked (Some left) column

      abbrev put : Position → List ℕ → Option (List ℕ)
      put p text = in_room change text (text_room (look style) least left p)

      abbrev changed : List (List (List ℕ))
      changed = changed_rows put Global count rows

      abbrev kept : List (List (List ℕ))
      kept = map (by_column (λ column. resized_text (resize column)) 0) rows

      text-is : (i j : ℕ) → i < length rows → j < length (row_at rows i) → get_or (get_or changed i []) j [] ≡ resized_text (resize j) (get_or (get_or rows i []) j [])
      text-is i j inside below =
          let text : List ℕ = get_or (get_or rows i []) j [] in
          let within : j < count = omega (arith, below, row-long n rows long i inside, first-long n rows long some_rows) in
          let counted : length least ≡ count = length-map natural (λ _. paddings style) ∙ wide-each in
          let low : slice_index least j ≤ slice_index left j = omega (arith, least-at (paddings style) natural j (omega (arith, within, wide-each)), enough j within) in
          text-at put rows (position_at i j) (inside, below) Global within
          ∙ ap (λ (found : Option ℕ). unwrap_or (in_room change text found) text) (text_room-is style least left (position_at i j) (omega (arith, within, counted)) (omega (arith, within, many)) low)
          ∙ turned (slice_index left j - paddings style) text

      changed-is : changed ≡ kept
      changed-is =
          let places = covered_positions Global (length rows) count in
          rows-by (by_column (λ column. resized_text (resize column)) 0) changed rows (row-count put rows places)
          (λ i inside. row-by (λ column. resized_text (resize column)) 0 (get_or changed i []) (get_or rows i []) (text-count put rows i inside places)
          (λ j below. let same : j ≡ 0 + j = omega arith in text-is i j inside below ∙ ap (λ k. resized_text (resize k) (get_or (get_or rows i []) j [])) same))

      kept-long : AreRowsOfLength n kept
      kept-long = rows-long n resize rows long

      kept-rows : length kept ≡ length rows
      kept-rows = length-map rows (by_column (λ column. resized_text (resize column)) 0)

      kept-count : column_count kept ≡ count
      kept-count =
          let some : 0 < length kept = omega (arith, kept-rows, some_rows) in
          first-long n kept kept-long some ∙ sym (first-long n rows long some_rows)

      kept-high : length (heights_of style kept) ≡ length kept
      kept-high =
          let some : 0 < longest_row_length kept = omega (arith, counts-same n kept kept-long, kept-count, some_columns) in
          length-table_heights (compact_sizing style) (longest_row_length kept) kept some

      module _ (colors : Position → Option Color) where
        kept-widths : drawn_widths (keeps style colors kept (both style left None)) ≡ left
        kept-widths = by_number left (column_count kept) (many ∙ sym kept-count)

        kept-heights : drawn_heights (keeps style colors kept (both style left None)) ≡ heights_of style kept
        kept-heights =
            ap (λ (sizes : List ℕ). map (λ k. slice_index sizes k) (range_with_len 0 (length kept))) (natural-heights style n kept kept-long)
            ∙ by_number (heights_of style kept) (length kept) kept-high

        abbrev text_in : List (List (List ℕ)) → List ℕ → List ℕ → List ℕ
        text_in texts widths heights = ended line_feed (frame_of (look style) widths heights) (table_text (look style) texts colors widths heights)

        kept-text : text_of style (keeps style colors kept (both style left None)) ≡ colored_text style asked colors rows
        unfolding colored_text
        kept-text =
            ap (λ (widths : List ℕ). text_in kept widths (drawn_heights (keeps style colors kept (both style left None)))) kept-widths
            ∙ ap (text_in kept left) kept-heights
            ∙ ap (λ (widths : List ℕ). text_in kept widths (heights_of style kept)) (sym (widths-are style asked rows left told))
            ∙ ap (λ (texts : List (List (List ℕ))). text_in texts (asked_widths style asked rows) (heights_of style texts)) (sym (kept-is style asked rows left told))

        pub gave-text : text_of style (keeps style colors changed (both style left None)) ≡ colored_text style asked colors rows
        gave-text = ap (λ (texts : List (List (List ℕ))). text_of style (keeps style colors texts (both style left None))) changed-is ∙ kept-text

    -- ---- by how much they shrink

    module _ (width : ℕ) (is_width : asked.width ≡ Some width) where
      abbrev least_list : List ℕ
      least_list = map (λ _. paddings style) natural

      abbrev shrunk : List ℕ
      shrunk = shrunk_list asked.priority least_list (total - width) natural

      told-is : width < total → narrowed style asked rows ≡ Some shrunk
      told-is more =
          let wider : nat_le total width ≡ false = grind (arith, nat_tests, more) in
          ap (narrow style asked natural total) is_width ∙ ap (λ (test : Bool). if test then None else Some shrunk) wider

      shrunk-many : length shrunk ≡ count
      shrunk-many = shrunk-length asked.priority least_list (total - width) natural shrunk (shrunk_list-meets asked.priority least_list (total - width) natural) ∙ wide-each

      shrunk-keeps : width < total → (k : ℕ) → k < count → paddings style ≤ slice_index shrunk k
      shrunk-keeps more k below =
          let inside : k < length natural = omega (arith, below, wide-each) in
          let within : k < longest_row_length rows = omega (arith, below, columns-are) in
          narrow-keeps style asked natural shrunk total asked.width (told-is more) k inside (padded style rows some_rows k within inside)

      leasts-are : (colors : Position → Option Color) → leasts rows (look style) colors ≡ least_list
      leasts-are colors = empty-is style count (length rows) some_rows natural wide-each

      left-is-shrunk : (colors : Position → Option Color) (whole : ℕ) (widths left : List ℕ) → whole ≡ total → column_widths count widths ≡ natural → IsShrunkByChoice asked.priority (leasts rows (look style) colors) (whole - width) (column_widths count widths) left → left ≡ shrunk
      left-is-shrunk colors whole widths left same are is =
          shrunk_list-one asked.priority (leasts rows (look style) colors) (whole - width) (column_widths count widths) left is
          ∙ ap (λ (least : List ℕ). shrunk_list asked.priority least (whole - width) (column_widths count widths)) (leasts-are colors)
          ∙ ap (λ (k : ℕ). shrunk_list asked.priority least_list (k - width) (column_widths count widths)) same
          ∙ ap (shrunk_list asked.priority least_list (total - width)) are

-- ---- the step

cells-none : (rows columns : ℕ) → (not (rows == 0) && not (columns == 0)) ≡ false → 0 < rows → 0 < columns → ⊥
cells-none rows columns is some more = grind (arith, nat_tests, is, some, more)

-- what a hint leaves of the sizes that a table keeps
pub record LeavesSizes (hint : Option Entity) : Type 0 where
  pub none : kept_after hint none_stored ≡ none_stored
  pub widths : (widths : List ℕ) → kept_after hint (record { widths = Some widths; heights = None }) ≡ record { widths = Some widths; heights = None }
  pub all : (style : Compact) (colors : Position → Option Color) (rows : List (List (List ℕ))) (widths heights : List ℕ) → widths ≡ natural_widths (look style) (column_count rows) rows → heights ≡ natural_heights (look style) (column_count rows) rows
      → text_of style (keeps style colors rows (kept_after hint (both style widths (Some heights)))) ≡ text_of style (keeps style colors rows none_stored)

of-row : (row : ℕ) → LeavesSizes (Some (Row row))
of-row row = record { none = refl; widths = λ widths. refl; all = λ style colors rows widths heights wide high. widths-kept style colors rows widths wide }

of-nothing : LeavesSizes None
of-nothing = record { none = refl; widths = λ widths. refl; all = λ style colors rows widths heights wide high. naturals-kept style colors rows widths heights wide high }

module _ (style : Compact) (colors : Position → Option Color) (asked : WidthLimit) (n : ℕ) (rows : List (List (List ℕ))) (long : AreRowsOfLength n rows) (width : ℕ) (is_width : asked.width ≡ Some width) (hint : Option Entity) (leaves : LeavesSizes hint)
    {P : Type 0} (shrinks : P → List ℕ → ℕ → List ℕ → P → List ℕ → Type 0) (priority : P) (change : ℕ → List ℕ → Option (List ℕ))
    (named : (least : List ℕ) (by : ℕ) (widths : List ℕ) (after : P) (left : List ℕ) → shrinks priority least by widths after left → IsShrunkByChoice asked.priority least by widths left)
    (turned : (width : ℕ) (text : List ℕ) → unwrap_or (change width text) text ≡ resized_text (if asked.truncate then Cut width else Wrap width asked.keep_words) text) where
  abbrev begun : State
  begun = fresh rows (look style) colors

  abbrev after : State → State
  after s = record s { sizes = kept_after hint s.sizes }

  -- a table without cells takes nothing
  fits-none : has_cells begun ≡ false → total style asked n rows long ≤ width
  fits-none none =
      elim (cases_lt width (total style asked n rows long)) [
        | inl more ↦
            let some = some-of-table style (widths_of style rows) (heights_of style rows) (omega (arith, more)) in
            let down : 0 < length rows = omega (arith, height-each style rows some.1, some.1) in
            let across : 0 < column_count rows = omega (arith, width-each style rows some.1, counts-same n rows long, some.0) in
            absurd (cells-none (length rows) (column_count rows) none down across)
        | inr less ↦ omega (arith, less)
      ]

  fitting : total style asked n rows long ≤ width → text_of style begun ≡ colored_text style asked colors rows
  fitting less = unchanged style asked n rows long colors (narrowed-none style asked (widths_of style rows) (total style asked n rows long) width is_width less)

  shrunk-text : (0 < length rows) × (0 < column_count rows) → (it : TableSizes) → AreEstimated rows (look style) colors it → width < it.whole → (left : List ℕ) (last_priority : P)
      → shrinks priority (leasts rows (look style) colors) (it.whole - width) (column_widths (column_count rows) it.widths) last_priority left
      → text_of style (after (narrowed_table change (leasts rows (look style) colors) left (keeping it begun))) ≡ colored_text style asked colors rows
  shrunk-text some it are wider left last_priority did =
      let whole : it.whole ≡ total style asked n rows long = are.whole ∙ whole-is style asked n rows long some.0 some.1 in
      let more : width < total style asked n rows long = omega (arith, whole, wider) in
      let columns : column_widths (column_count rows) it.widths ≡ widths_of style rows =
      ap (column_widths (column_count rows)) (are.widths ∙ natural-is style asked n rows long) ∙ by_number (widths_of style rows) (column_count rows) (wide-each style asked n rows long some.0 some.1) in
      let least : List ℕ = least_list style asked n rows long some.0 some.1 width is_width in
      let sizes : List ℕ = shrunk style asked n rows long some.0 some.1 width is_width in
      let is : left ≡ sizes = left-is-shrunk style asked n rows long some.0 some.1 width is_width colors it.whole it.widths left whole columns (named (leasts rows (look style) colors) (it.whole - width) (column_widths (column_count rows) it.widths) last_priority left did) in
      ap (λ (found : List ℕ). text_of style (after (narrowed_table change found left (keeping it begun)))) (leasts-are style asked n rows long some.0 some.1 width is_width colors)
      ∙ ap (λ (found : List ℕ). text_of style (after (narrowed_table change least found (keeping it begun)))) is
      ∙ ap (λ (stored : Stored). text_of style (keeps style colors (narrowed_table change least sizes (keeping it begun)).rows stored)) (leaves.widths sizes)
      ∙ gave-text style asked n rows long some.0 some.1 sizes (told-is style asked n rows long some.0 some.1 width is_width more) (shrunk-many style asked n rows long some.0 some.1 width is_width)
      (shrunk-keeps style asked n rows long some.0 some.1 width is_width more) change turned colors

  changed-text : (changed : State) → HasNarrowed rows (look style) colors shrinks priority change width changed → text_of style (after changed) ≡ colored_text style asked colors rows
  changed-text changed (no_cells none same) =
      ap (λ (s : State). text_of style (after s)) same ∙ ap (λ (stored : Stored). text_of style (keeps style colors rows stored)) leaves.none ∙ fitting (fits-none none)
  changed-text changed (stayed there it are less same) =
      let some = cells-there (length rows) (column_count rows) there in
      let whole : it.whole ≡ total style asked n rows long = are.whole ∙ whole-is style asked n rows long some.0 some.1 in
      ap (λ (s : State). text_of style (after s)) same ∙ leaves.all style colors rows it.widths it.heights are.widths are.heights ∙ fitting (omega (arith, whole, less))
  changed-text changed (gave there it are wider left last_priority did same) =
      ap (λ (s : State). text_of style (after s)) same ∙ shrunk-text (cells-there (length rows) (column_count rows) there) it are wider left last_priority did

  pub step-text : (measures : ℕ → List (List (List ℕ)) → Look → Result ℕ Fault → Type 0) → GivesOnly measures (table_under style colors rows) width → (last : State)
      → Settles hint (NarrowsTable shrinks priority change measures) (table_under style colors rows) (Ok last) → colored_text style asked colors rows ≡ text_of style last
  step-text measures gives last did =
      let found = left-is rows (look style) colors shrinks priority change width measures gives hint last did in
      sym (ap (text_of style) found.last_is ∙ changed-text found.changed found.has)

-- ---- the settings of a list

truncated-is : (width : ℕ) (text : List ℕ) → (if nat_lt width (text_width text) then cut_at width text else text) ≡ truncated_text width text
truncated-is width text =
    elim (cases_lt width (text_width text)) [
      | inl more ↦
          let less : nat_lt width (text_width text) ≡ true = grind (arith, nat_tests, more) in
          let fits : nat_le (text_width text) width ≡ false = grind (arith, nat_tests, more) in
          ap (λ b. if b then cut_at width text else text) less ∙ sym (ap (λ b. if b then text else cut_at width text) fits)
      | inr low ↦
          let less : nat_lt width (text_width text) ≡ false = grind (arith, nat_tests, low) in
          let fits : nat_le (text_width text) width ≡ true = grind (arith, nat_tests, low) in
          ap (λ b. if b then cut_at width text else text) less ∙ sym (ap (λ b. if b then text else cut_at width text) fits)
    ]

cut-turned : (suffix : List ℕ) (limit : SuffixLimit) (try_color : Bool) → suffix ≡ [] → (width : ℕ) (text : List ℕ) → unwrap_or (truncating (cutting_by suffix limit false try_color) width text) text ≡ truncated_text width text
cut-turned suffix limit try_color none width text =
    ap (λ (found : List ℕ). unwrap_or (truncating (cutting_by found limit false try_color) width text) text) none
    ∙ by (nat_lt width (text_width text)) ∙ truncated-is width text
  where
    by : (b : Bool) → unwrap_or (if b then Some (cut_at width text) else None) text ≡ (if b then cut_at width text else text)
    by true = refl
    by false = refl

-- the change of each setting is what the program does to a cell
wrap-turned : (asked : WidthLimit) → asked.truncate ≡ false → (width : ℕ) (text : List ℕ) → unwrap_or (wrapping_each asked.keep_words width text) text ≡ resized_text (if asked.truncate then Cut width else Wrap width asked.keep_words) text
wrap-turned asked wraps width text = sym (ap (λ b. resized_text (if b then Cut width else Wrap width asked.keep_words) text) wraps)

truncate-turned : (asked : WidthLimit) (suffix : List ℕ) (limit : SuffixLimit) (try_color : Bool) → asked.truncate ≡ true → suffix ≡ [] → (width : ℕ) (text : List ℕ)
    → unwrap_or (truncating (cutting_by suffix limit false try_color) width text) text ≡ resized_text (if asked.truncate then Cut width else Wrap width asked.keep_words) text
truncate-turned asked suffix limit try_color cuts none width text =
    cut-turned suffix limit try_color none width text ∙ sym (ap (λ b. resized_text (if b then Cut width else Wrap width asked.keep_words) text) cuts)

-- ---- the rows of a text, filled

module _ (wanted : Wanted) (input : List ℕ) (width : ℕ) (is_width : wanted.limit.width ≡ Some width) where
  abbrev parts : List (List (List ℕ))
  parts = cell_parts input

  abbrev full : List (List (List ℕ))
  full = filled parts

  full-long : AreRowsOfLength (longest_row_length parts) full
  full-long = subst (AreRowsOfLength (longest_row_length parts)) (sym (filled-is parts)) (long-evened (longest_row_length parts) parts)

  abbrev colors : Position → Option Color
  colors = cell_color wanted.colors

  output-is : output_of wanted input ≡ colored_text wanted.style wanted.limit colors full
  unfolding output_of
  output-is = sym (text-filled wanted.style wanted.limit parts colors) ∙ ap (colored_text wanted.style wanted.limit colors) (sym (filled-is parts))

  -- by any priority of this name, and any measurement that gives this width
  module _ {P : Type 0} (shrinks : P → List ℕ → ℕ → List ℕ → P → List ℕ → Type 0) (priority : P)
      (named : (least : List ℕ) (by : ℕ) (widths : List ℕ) (after : P) (left : List ℕ) → shrinks priority least by widths after left → IsShrunkByChoice wanted.limit.priority least by widths left)
      (measures : ℕ → List (List (List ℕ)) → Look → Result ℕ Fault → Type 0) (gives : GivesOnly measures (table_of wanted input) width) (left : State) where
    pub wrapped-table : wanted.limit.truncate ≡ false → Settles (Some (Row 0)) (NarrowsTable shrinks priority (wrapping_each wanted.limit.keep_words) measures) (table_of wanted input) (Ok left) → output_of wanted input ≡ ended_table left
    wrapped-table wraps did =
        output-is ∙ step-text wanted.style colors wanted.limit (longest_row_length parts) full full-long width is_width (Some (Row 0)) (of-row 0) shrinks priority (wrapping_each wanted.limit.keep_words) named (wrap-turned wanted.limit wraps) measures gives left did

    pub cut-table : (suffix : List ℕ) (limit : SuffixLimit) (try_color : Bool) → wanted.limit.truncate ≡ true → suffix ≡ []
        → Settles None (NarrowsTable shrinks priority (truncating (cutting_by suffix limit false try_color)) measures) (table_of wanted input) (Ok left) → output_of wanted input ≡ ended_table left
    cut-table suffix limit try_color cuts none did =
        output-is
        ∙ step-text wanted.style colors wanted.limit (longest_row_length parts) full full-long width is_width None of-nothing shrinks priority (truncating (cutting_by suffix limit false try_color)) named
        (truncate-turned wanted.limit suffix limit try_color cuts none) measures gives left did

  module _ (left : State) where
    abbrev by_name : Unit {0} → List ℕ → ℕ → List ℕ → Unit {0} → List ℕ → Type 0
    by_name = shrinks_so (IsShrunkByChoice wanted.limit.priority)

    pub wrapped-setting : wanted.limit.truncate ≡ false → setting_step (WrapTable (Exact width) wanted.limit.keep_words wanted.limit.priority) (table_of wanted input) (Ok left) → output_of wanted input ≡ ended_table left
    wrapped-setting wraps did = wrapped-table by_name tt (λ least by widths after sizes is. is) (measured_so (width_of (Exact width))) (λ size is. sym is) left wraps did

    pub cut-setting : (suffix : String Heap) (limit : SuffixLimit) (try_color : Bool) → wanted.limit.truncate ≡ true → string_bytes suffix ≡ []
        → setting_step (Truncate (Exact width) suffix limit false try_color wanted.limit.priority) (table_of wanted input) (Ok left) → output_of wanted input ≡ ended_table left
    cut-setting suffix limit try_color cuts none did =
        cut-table by_name tt (λ least by widths after sizes is. is) (measured_so (width_of (Exact width))) (λ size is. sym is) left (string_bytes suffix) limit try_color cuts none did
