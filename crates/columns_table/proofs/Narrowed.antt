-- A table whose columns shrink: its sizes, and the rows that are made for it; and one whose columns don't.
use Rattle.std.proofs.Common.{◌≡◌, ◌==◌, ◌||◌, ◌⊎◌, inl, inr, ℕ, ◌+◌, ◌-◌, ◌<◌, nat_le, Bool, true, false, List, [], ◌∷◌, ◌++◌, Option, None, Some, Result, Ok, Err, map, length, slice_index, refl, ap, sym, subst, ◌∙◌, arith, if◌then◌else◌}
use Rattle.std.proofs.lemmas.Bool.Decides.{nat_tests}
use Rattle.std.proofs.lemmas.List.{length-map}
use Rattle.std.proofs.lemmas.Simd.{map-map}
use Rattle.grid_config.specs.Compact.{Compact}
use Rattle.grid_config.specs.Looks.{compact_look, look_of}
use Rattle.grid_config.specs.Settings.{Settings, StartsWith, compact_start}
use Rattle.grid_config.proofs.Looks.{same_look}
use Rattle.grid_config.specs.Colors.{Color}
use Rattle.grid_config_values.specs.Spans.Spans.{AreGood}
use Rattle.grid_config_values.specs.Glyphs.{boundary_count, has_row_boundary}
use Rattle.grid_config_values.specs.declared.fault.Fault.{Fault}
use Rattle.grid_config_values.specs.declared.fault.Fault.TheVariants.{Memory, Range, Room, Spans}
use Rattle.grid_config_values.specs.declared.position.Position.{Position}
use Rattle.grid_records_traits.specs.Rows.{evened}
use Rattle.grid_records_traits.proofs.EvenedRows.{evened-twice}
use Rattle.grid_records_estimate.specs.Collecting.{PassesMax}
use Rattle.grid_records_estimate.specs.Estimates.{greatest, track_sizes}
use Rattle.grid_records_estimate.specs.Sizes.{IsRefusal, table_heights}
use Rattle.grid_records_estimate.specs.Sizing.{compact_sizing, row_needs}
use Rattle.grid_records_estimate.proofs.Lengths.{length-table_heights}
use Rattle.grid_records_estimate.proofs.Sizes.{total-passes}
use Rattle.grid_records_measure.specs.TextLines.{line_feed}
use Rattle.papergrid_picture.specs.Fitting.{FitsAnswer, InRange, first_too_wide, table_width}
use Rattle.papergrid_picture.specs.Frame.{Frame, frame_of, full_line_width, line_count}
use Rattle.papergrid_picture.specs.Tables.{sizes_of, table_text}
use Rattle.papergrid_fits.specs.Tables.{CanBeDrawn, IsFitsAnswer, sized_frame}
use Rattle.papergrid_fits.specs.Grids.{grid_text}
use Rattle.columns_asked.specs.Colors.ColoredTables.{colored_text}
use Rattle.columns_asked.specs.WidthLimits.{Keep}
use Rattle.columns_asked.specs.DrawnTables.{AskedInRange, asked_frame, asked_widths, by_column, frame_under, heights_of, resized_rows, longest_row_length, narrow, narrowed, paddings, resize_in, too_wide, widths_of, widths_or}
use Rattle.columns_asked.specs.Resizing.{resized_text}
use Rattle.columns_asked.specs.Shrunk.{shrunk_list}
use Rattle.columns_asked.specs.declared.asked.WidthLimit.{WidthLimit}
use Rattle.columns_asked.proofs.Narrows.{shrunk-length}
use Rattle.columns_asked.proofs.Shrunk.{shrunk_list-meets}
use Rattle.columns_table.specs.Answers.{natural_text}
use Rattle.columns_table.specs.Resized.{resized_row}
use Rattle.columns_table.proofs.ResizedRows.{length-by_column, rows-narrowed}
use Rattle.columns_table.proofs.Natural.{good-spans}
use Rattle.papergrid_picture.proofs.ByNumber.{by_number}
use Rattle.columns_table.proofs.SplitRows.{height-each, too_high, width-each}

-- a table without spans
without-spans : (frame : Frame) (rows : List (List (List ℕ))) (Good : Type 0) → Good → (answer : Result (Unit {0}) Fault) → FitsAnswer frame rows Good answer → FitsAnswer frame rows (Unit {0}) answer
without-spans frame rows Good good (Ok done) is = (tt, is.1, is.2)
without-spans frame rows Good good (Err Spans) is = absurd (is good)
without-spans frame rows Good good (Err Range) is = (tt, is.1)
without-spans frame rows Good good (Err (Room row column)) is = (tt, is.1, is.2)
without-spans frame rows Good good (Err Memory) is = is

-- ---- columns that shrink

module _ (style : Compact) (asked : WidthLimit) where
  -- they do where there are some, and as many stay
  narrow-told : (natural widths : List ℕ) (total : ℕ) (width : Option ℕ) → narrow style asked natural total width ≡ Some widths → (0 < total) × (length widths ≡ length natural)
  narrow-told natural widths total None is = absurd (cc is)
  narrow-told natural widths total (Some w) is = step (nat_le total w) refl is where
    step : (b : Bool) → nat_le total w ≡ b → (if b then None else Some (shrunk_list asked.priority (map (λ _. paddings style) natural) (total - w) natural)) ≡ Some widths → (0 < total) × (length widths ≡ length natural)
    step true e told = absurd (cc told)
    step false e told =
        let more : w < total = grind (arith, nat_tests, e) in
        let leasts : List ℕ = map (λ _. paddings style) natural in
        let same : shrunk_list asked.priority leasts (total - w) natural ≡ widths = cc told in
        (omega (arith, more), ap (λ (sizes : List ℕ). length sizes) (sym same) ∙ shrunk-length asked.priority leasts (total - w) natural (shrunk_list asked.priority leasts (total - w) natural) (shrunk_list-meets asked.priority leasts (total - w) natural))

pub some-of-table : (style : Compact) (widths heights : List ℕ) → 0 < table_width (frame_of (compact_look style) widths heights) → (0 < length widths) × (0 < length heights)
some-of-table style widths [] some = absurd (omega (arith, some))
some-of-table style [] (height ∷ heights) some =
    let none : table_width (frame_of (compact_look style) [] (height ∷ heights)) ≡ 0 = no_columns (length (height ∷ heights) == 0) (full_line_width (frame_of (compact_look style) [] (height ∷ heights))) in
    absurd (omega (arith, some, none))
  where
    no_columns : (b : Bool) (n : ℕ) → (if b || true then 0 else n) ≡ 0
    no_columns true n = refl
    no_columns false n = refl
some-of-table style (width ∷ widths) (height ∷ heights) some = (omega arith, omega arith)

count-by_column : (f : ℕ → List ℕ → List ℕ) (rows : List (List (List ℕ))) → longest_row_length (map (by_column f 0) rows) ≡ longest_row_length rows
count-by_column f rows =
    ap greatest (map-map (λ (row : List (List ℕ)). length row) (by_column f 0) rows) ∙ (λ k. greatest (map (λ row. length-by_column f 0 row k) rows))

module _ (style : Compact) (asked : WidthLimit) (texts : List (List (List ℕ))) (widths : List ℕ) (told : narrowed style asked texts ≡ Some widths) where
  abbrev kept : List (List (List ℕ))
  kept = resized_rows style asked texts

  facts : (0 < table_width (frame_under style texts)) × (length widths ≡ length (widths_of style texts))
  facts = narrow-told style asked (widths_of style texts) widths (table_width (frame_under style texts)) asked.width told

  pub some-sizes : (0 < length (widths_of style texts)) × (0 < length (heights_of style texts))
  some-sizes = some-of-table style (widths_of style texts) (heights_of style texts) facts.0

  pub columns-are : length widths ≡ longest_row_length texts
  columns-are = facts.1 ∙ width-each style texts some-sizes.1

  pub some-columns : 0 < length widths
  some-columns = omega (arith, facts.1, some-sizes.0)

  pub some-rows : 0 < length texts
  some-rows = omega (arith, height-each style texts some-sizes.1, some-sizes.1)

  pub kept-is : kept ≡ map (by_column (λ column. resized_text (resize_in style asked (Some widths) column)) 0) texts
  unfolding resized_rows
  kept-is = ap (λ (given : Option (List ℕ)). map (by_column (λ column. resized_text (resize_in style asked given column)) 0) texts) told

  pub widths-are : asked_widths style asked texts ≡ widths
  unfolding asked_widths
  widths-are = ap (widths_or style asked (widths_of style texts)) told

  pub kept-columns : length widths ≡ longest_row_length kept
  kept-columns = columns-are ∙ sym (ap (λ (rows : List (List (List ℕ))). longest_row_length rows) kept-is ∙ count-by_column (λ column. resized_text (resize_in style asked (Some widths) column)) texts)

  pub some-heights-kept : 0 < length (heights_of style kept)
  some-heights-kept =
      let same : length kept ≡ length texts = ap (λ (rows : List (List (List ℕ))). length rows) kept-is ∙ length-map texts (by_column (λ column. resized_text (resize_in style asked (Some widths) column)) 0) in
      let some : 0 < longest_row_length kept = omega (arith, kept-columns, some-columns) in
      omega (arith, length-table_heights (compact_sizing style) (longest_row_length kept) kept some, same, some-rows)

  heights-each : length (heights_of style kept) ≡ length kept
  heights-each = let some : 0 < longest_row_length kept = omega (arith, kept-columns, some-columns) in length-table_heights (compact_sizing style) (longest_row_length kept) kept some

  pub frame-is : (heights : List ℕ) → heights ≡ heights_of style kept → frame_of (compact_look style) widths heights ≡ asked_frame style asked texts
  frame-is heights high = ap (frame_of (compact_look style) widths) high ∙ ap (λ (sizes : List ℕ). frame_of (compact_look style) sizes (heights_of style kept)) (sym widths-are)

  -- the rows that are made, in so many columns
  module _ (n : ℕ) (rows : List (List (List ℕ))) (counted : n ≡ length widths) (made : rows ≡ resized_rows style asked texts) where
    pub heights-are : table_heights (compact_sizing style) n (evened n rows) ≡ heights_of style kept
    unfolding table_heights
    heights-are =
        ap (λ m. table_heights (compact_sizing style) m (evened m rows)) (counted ∙ kept-columns)
        ∙ ap (λ found. table_heights (compact_sizing style) (longest_row_length kept) (evened (longest_row_length kept) found)) made
        ∙ ap (λ found. track_sizes (row_needs (compact_sizing style) (longest_row_length kept) found)) (evened-twice kept (longest_row_length kept))

    -- one height alone is too great
    pub heights-pass : PassesMax (table_heights (compact_sizing style) n (evened n rows)) → ¬ (InRange (asked_frame style asked texts))
    heights-pass passes =
        let found : PassesMax (heights_of style kept) = subst PassesMax heights-are passes in
        subst (λ (frame : Frame). ¬ (InRange frame)) (frame-is (heights_of style kept) refl)
        (too_high style widths (heights_of style kept) some-columns some-heights-kept
        (total-passes (heights_of style kept) (boundary_count (has_row_boundary style.borders) (length (heights_of style kept))) style.margin.top.size style.margin.bottom.size found))

    module _ (settings : Settings) (start : StartsWith (compact_start style) settings) (heights : List ℕ) (high : heights ≡ table_heights (compact_sizing style) n (evened n rows)) where
      heights-kept : heights ≡ heights_of style kept
      heights-kept = high ∙ heights-are

      sized-is : sized_frame settings (slice_index widths) (slice_index heights) n (length kept) ≡ asked_frame style asked texts
      sized-is =
          ap (λ look. frame_of look (sizes_of (slice_index widths) n) (sizes_of (slice_index heights) (length kept))) (same_look style settings start)
          ∙ ap (λ sizes. frame_of (compact_look style) sizes (sizes_of (slice_index heights) (length kept))) (by_number widths n (sym counted))
          ∙ ap (frame_of (compact_look style) widths) (by_number heights (length kept) (ap (λ (sizes : List ℕ). length sizes) heights-kept ∙ heights-each))
          ∙ frame-is heights heights-kept

      -- what they are to fit
      pub answer-is : (answer : Result (Unit {0}) Fault) → IsFitsAnswer settings (slice_index widths) (slice_index heights) n rows answer → FitsAnswer (asked_frame style asked texts) kept (Unit {0}) answer
      answer-is answer is =
          subst (λ (frame : Frame). FitsAnswer frame kept (Unit {0}) answer) sized-is
          (without-spans (sized_frame settings (slice_index widths) (slice_index heights) n (length kept)) kept (AreGood settings.spans (length kept) n) (good-spans style settings start (length kept) n) answer
          (subst (λ (found : List (List (List ℕ))). IsFitsAnswer settings (slice_index widths) (slice_index heights) n found answer) made is))

      pub fits-is : CanBeDrawn settings (slice_index widths) (slice_index heights) n rows → FitsAnswer (asked_frame style asked texts) kept (Unit {0}) (Ok tt)
      fits-is fits = answer-is (Ok tt) (fits.good, fits.range, fits.room)

      grid-is : (colors : Position → Option Color) → grid_text (look_of settings) (slice_index widths) (slice_index heights) colors n rows ≡ table_text (compact_look style) kept colors (asked_widths style asked texts) (heights_of style kept)
      grid-is colors =
          ap (λ found. grid_text (look_of settings) (slice_index widths) (slice_index heights) colors n found) made
          ∙ ap (λ look. table_text look kept colors (sizes_of (slice_index widths) n) (sizes_of (slice_index heights) (length kept))) (same_look style settings start)
          ∙ ap (λ sizes. table_text (compact_look style) kept colors sizes (sizes_of (slice_index heights) (length kept))) (by_number widths n (sym counted) ∙ sym widths-are)
          ∙ ap (table_text (compact_look style) kept colors (asked_widths style asked texts)) (by_number heights (length kept) (ap (λ (sizes : List ℕ). length sizes) heights-kept ∙ heights-each) ∙ heights-kept)

      -- what is printed
      pub text-is : (colors : Position → Option Color) (lines : ℕ) → lines ≡ line_count (frame_of (compact_look style) widths heights)
          → (if lines == 0 then [] else grid_text (look_of settings) (slice_index widths) (slice_index heights) colors n rows ++ line_feed ∷ []) ≡ colored_text style asked colors texts
      unfolding colored_text
      text-is colors lines counted_lines =
          ap (λ (m : ℕ). if m == 0 then [] else grid_text (look_of settings) (slice_index widths) (slice_index heights) colors n rows ++ line_feed ∷ []) (counted_lines ∙ ap (λ (frame : Frame). line_count frame) (frame-is heights heights-kept))
          ∙ ap (λ (text : List ℕ). if line_count (asked_frame style asked texts) == 0 then [] else text ++ line_feed ∷ []) (grid-is colors)

-- what an estimate refuses is a table out of range
pub refusal-is : (frame : Frame) (rows : List (List (List ℕ))) (fault : Fault) (Passes : Type 0) → (Passes → ¬ (InRange frame)) → IsRefusal fault Passes → (fault ≡ Memory) ⊎ FitsAnswer frame rows (Unit {0}) (Err fault)
refusal-is frame rows fault Passes out (inl memory) = inl memory
refusal-is frame rows fault Passes out (inr range) = inr (subst (λ (given : Fault). FitsAnswer frame rows (Unit {0}) (Err given)) (sym range.0) (tt, out range.1))

module _ (style : Compact) (asked : WidthLimit) (beside : ℕ) (is_beside : beside ≡ paddings style) (texts : List (List (List ℕ))) (widths : List ℕ) (told : narrowed style asked texts ≡ Some widths)
    (rows : List (List (List ℕ))) (given : List ℕ) (same : given ≡ widths) (are : rows ≡ map (resized_row asked beside given) texts) where
  pub made : rows ≡ resized_rows style asked texts
  made =
      are ∙ ap (λ (ws : List ℕ). map (resized_row asked beside ws) texts) same ∙ rows-narrowed style asked beside widths texts is_beside ∙ sym (kept-is style asked texts widths told)

-- the heights of rows that are read as long as there are columns
pub heights-peeked : (style : Compact) (columns n : ℕ) (found rows : List (List (List ℕ))) → columns ≡ n → found ≡ evened n rows
    → table_heights (compact_sizing style) columns found ≡ table_heights (compact_sizing style) n (evened n rows)
heights-peeked style columns n found rows many are = ap (λ m. table_heights (compact_sizing style) m found) many ∙ ap (table_heights (compact_sizing style) n) are

-- ---- columns that don't shrink

by_column-same : (column : ℕ) (row : List (List ℕ)) → by_column (λ _. resized_text Keep) column row ≡ row
by_column-same column [] = refl
by_column-same column (text ∷ row) = ap (λ (rest : List (List ℕ)). text ∷ rest) (by_column-same (column + 1) row)

all-same : (rows : List (List (List ℕ))) → map (by_column (λ _. resized_text Keep) 0) rows ≡ rows
all-same [] = refl
all-same (row ∷ rows) = ap (λ (r : List (List ℕ)). r ∷ map (by_column (λ _. resized_text Keep) 0) rows) (by_column-same 0 row) ∙ ap (λ (rest : List (List (List ℕ))). row ∷ rest) (all-same rows)

module _ (style : Compact) (asked : WidthLimit) (texts : List (List (List ℕ))) (told : narrowed style asked texts ≡ None) where
  pub kept-natural : resized_rows style asked texts ≡ texts
  unfolding resized_rows
  kept-natural = ap (λ (given : Option (List ℕ)). map (by_column (λ column. resized_text (resize_in style asked given column)) 0) texts) told ∙ all-same texts

  pub widths-natural : asked_widths style asked texts ≡ widths_of style texts
  unfolding asked_widths
  widths-natural = ap (widths_or style asked (widths_of style texts)) told

  pub frame-natural : asked_frame style asked texts ≡ frame_under style texts
  frame-natural =
      ap (λ (sizes : List ℕ). frame_of (compact_look style) sizes (heights_of style (resized_rows style asked texts))) widths-natural
      ∙ ap (λ (rows : List (List (List ℕ))). frame_of (compact_look style) (widths_of style texts) (heights_of style rows)) kept-natural

  pub text-natural : (colors : Position → Option Color) → natural_text style colors texts ≡ colored_text style asked colors texts
  unfolding colored_text
  text-natural colors =
      sym (ap (λ (frame : Frame). if line_count frame == 0 then [] else table_text (compact_look style) (resized_rows style asked texts) colors (asked_widths style asked texts) (heights_of style (resized_rows style asked texts)) ++ line_feed ∷ []) frame-natural
      ∙ ap (λ (sizes : List ℕ). if line_count (frame_under style texts) == 0 then [] else table_text (compact_look style) (resized_rows style asked texts) colors sizes (heights_of style (resized_rows style asked texts)) ++ line_feed ∷ []) widths-natural
      ∙ ap (λ (rows : List (List (List ℕ))). if line_count (frame_under style texts) == 0 then [] else table_text (compact_look style) rows colors (widths_of style texts) (heights_of style rows) ++ line_feed ∷ []) kept-natural)

  pub fits-natural : InRange (frame_under style texts) → AskedInRange style asked texts
  unfolding AskedInRange
  fits-natural range = (range, subst (λ (frame : Frame). InRange frame) (sym frame-natural) range)

  pub room-natural : first_too_wide (frame_under style texts) texts ≡ None → too_wide style asked texts ≡ None
  unfolding too_wide
  room-natural none =
      ap (λ (frame : Frame). first_too_wide frame (resized_rows style asked texts)) frame-natural
      ∙ ap (first_too_wide (frame_under style texts)) kept-natural ∙ none
