-- What the program writes without a width is what a table of the library prints.
use Rattle.std.proofs.Common.{◌≡◌, ◌==◌, ◌+◌, ◌<◌, ℕ, Bool, true, false, inl, inr, List, [], ◌∷◌, ◌++◌, None, Option, length, slice_index, refl, ap, sym, ◌∙◌, arith, if◌then◌else◌}
use Rattle.std.proofs.lemmas.Bool.{cases_lt}
use Rattle.std.proofs.lemmas.Bool.Decides.{nat_tests}
use Rattle.std.proofs.lemmas.List.FromFn.{length-map-range_with_len}
use Rattle.grid_config.specs.Colors.{Color}
use Rattle.grid_config.specs.Compact.{Compact}
use Rattle.grid_config.specs.Looks.{compact_look}
use Rattle.grid_config_values.specs.declared.position.Position.{Position}
use Rattle.grid_records_estimate.specs.Sizes.{table_heights, table_widths}
use Rattle.grid_records_estimate.specs.Sizing.{compact_sizing}
use Rattle.grid_records_estimate.proofs.Lengths.{length-table_heights}
use Rattle.grid_records_measure.specs.TextLines.{line_feed}
use Rattle.grid_records_traits.specs.Rows.{evened}
use Rattle.papergrid_picture.specs.Frame.{Frame, column_count as columns_of, frame_of, line_count, row_count, track_at}
use Rattle.papergrid_picture.specs.Tables.{sizes_of, table_text}
use Rattle.papergrid_picture.proofs.ByNumber.{by_number}
use Rattle.tabled_steps.specs.Sizes.{natural_heights, natural_widths}
use Rattle.tabled_steps.specs.States.{State, column_count}
use Rattle.tabled_list.specs.Stripping.Printing.{drawn_frame, drawn_heights, drawn_widths, printed}
use Rattle.columns_asked.specs.DrawnTables.{ended, frame_under, heights_of, longest_row_length, narrow, narrowed, widths_of}
use Rattle.columns_table.specs.Answers.{natural_text}
use Rattle.columns_table.proofs.Narrowed.{text-natural}
use Rattle.columns_table.proofs.SplitRows.{height-each, width-each}
use Rattle.papergrid_picture.specs.Fitting.{table_width}
use Rattle.columns_asked.specs.Colors.ColumnColors.{cell_color}
use Rattle.columns_run.specs.DrawnTables.{output_of}
use Rattle.columns_run.specs.Rows.{cell_parts}
use Rattle.columns_run.specs.Wanted.{Wanted}
use Rattle.columns_laws.specs.Library.Tables.{AreRowsOfLength, ended_table, table_of, table_under}
use Rattle.columns_laws.proofs.LibraryLemmas.FilledRows.{filled-is, long-evened}
use Rattle.columns_laws.proofs.LibraryLemmas.FilledTables.{text-filled}
use Rattle.columns_laws.proofs.LibraryLemmas.SameSizes.{counts-same, heights-same, widths-same}

-- ---- frames without lines

pub no-lines : (frame : Frame) → row_count frame ≡ 0 → line_count frame ≡ 0
no-lines frame none =
    let test : (row_count frame == 0) ≡ true = grind (arith, nat_tests, none) in
    ap (λ (b : Bool). if b then 0 else if columns_of frame == 0 then 0 else track_at frame.rows (row_count frame) + frame.look.margin.bottom.size) test

pub no-columns : (frame : Frame) → columns_of frame ≡ 0 → line_count frame ≡ 0
no-columns frame none = by (row_count frame == 0)
  where
    test : (columns_of frame == 0) ≡ true
    test = grind (arith, nat_tests, none)

    by : (b : Bool) → (if b then 0 else if columns_of frame == 0 then 0 else track_at frame.rows (row_count frame) + frame.look.margin.bottom.size) ≡ 0
    by true = refl
    by false = ap (λ (b : Bool). if b then 0 else track_at frame.rows (row_count frame) + frame.look.margin.bottom.size) test

pub empty : (frame : Frame) (items : List ℕ) → line_count frame ≡ 0 → [] ≡ (if line_count frame == 0 then [] else items ++ line_feed ∷ [])
empty frame items none =
    let test : (line_count frame == 0) ≡ true = grind (arith, nat_tests, none) in
    sym (ap (λ (b : Bool). if b then [] else items ++ line_feed ∷ []) test)

-- ---- equally long rows

module _ (style : Compact) (n : ℕ) (rows : List (List (List ℕ))) (long : AreRowsOfLength n rows) where
  pub natural-widths : natural_widths (compact_look style) (column_count rows) rows ≡ widths_of style rows
  natural-widths = widths-same style (column_count rows) rows ∙ ap (λ m. table_widths (compact_sizing style) m rows) (sym (counts-same n rows long))

  pub natural-heights : natural_heights (compact_look style) (column_count rows) rows ≡ heights_of style rows
  natural-heights = heights-same style (column_count rows) rows ∙ ap (λ m. table_heights (compact_sizing style) m rows) (sym (counts-same n rows long))

  -- ---- in these colours

  module _ (colors : Position → Option Color) where
    abbrev table : State
    table = table_under style colors rows

    drawn-widths : drawn_widths table ≡ sizes_of (slice_index (widths_of style rows)) (column_count rows)
    drawn-widths = ap (λ (sizes : List ℕ). sizes_of (slice_index sizes) (column_count rows)) natural-widths

    drawn-heights : drawn_heights table ≡ sizes_of (slice_index (heights_of style rows)) (length rows)
    drawn-heights = ap (λ (sizes : List ℕ). sizes_of (slice_index sizes) (length rows)) natural-heights

    -- ---- with cells

    module _ (some : 0 < length (heights_of style rows)) where
      widths-are : drawn_widths table ≡ widths_of style rows
      widths-are = drawn-widths ∙ by_number (widths_of style rows) (column_count rows) (width-each style rows some ∙ counts-same n rows long)

      heights-are : drawn_heights table ≡ heights_of style rows
      heights-are = drawn-heights ∙ by_number (heights_of style rows) (length rows) (height-each style rows some)

      with-cells : natural_text style colors rows ≡ ended line_feed (drawn_frame table) (printed table)
      with-cells =
          let by : List ℕ → List ℕ → List ℕ = λ widths heights. if line_count (frame_of (compact_look style) widths heights) == 0 then [] else table_text (compact_look style) rows colors widths heights ++ line_feed ∷ [] in
          ap (λ (widths : List ℕ). by widths (heights_of style rows)) (sym widths-are) ∙ ap (by (drawn_widths table)) (sym heights-are)

    -- ---- without

    module _ (none : length (heights_of style rows) ≡ 0) where
      no-drawn : line_count (drawn_frame table) ≡ 0
      no-drawn =
          elim (cases_lt 0 (longest_row_length rows)) [
            | inl some ↦
                let each = length-table_heights (compact_sizing style) (longest_row_length rows) rows some in
                let count = length-map-range_with_len (slice_index (heights_of style rows)) 0 (length rows) in
                no-lines (drawn_frame table) (omega (arith, ap (λ (sizes : List ℕ). length sizes) drawn-heights, count, each, none))
            | inr gone ↦
                let count = length-map-range_with_len (slice_index (widths_of style rows)) 0 (column_count rows) in
                no-columns (drawn_frame table) (omega (arith, ap (λ (sizes : List ℕ). length sizes) drawn-widths, count, counts-same n rows long, gone))
          ]

      without-cells : natural_text style colors rows ≡ ended line_feed (drawn_frame table) (printed table)
      without-cells =
          sym (empty (frame_under style rows) (table_text (compact_look style) rows colors (widths_of style rows) (heights_of style rows)) (no-lines (frame_under style rows) none))
          ∙ empty (drawn_frame table) (printed table) no-drawn

    pub texts-same : natural_text style colors rows ≡ ended line_feed (drawn_frame table) (printed table)
    texts-same =
        elim (cases_lt 0 (length (heights_of style rows))) [
          | inl some ↦ with-cells some
          | inr none ↦ without-cells (omega (arith, none))
        ]

pub one-table : (wanted : Wanted) (input : List ℕ) → wanted.limit.width ≡ None → output_of wanted input ≡ ended_table (table_of wanted input)
unfolding output_of
one-table wanted input none =
    let rows : List (List (List ℕ)) = cell_parts input in
    let colors = cell_color wanted.colors in
    let full : List (List (List ℕ)) = evened (longest_row_length rows) rows in
    let told : narrowed wanted.style wanted.limit full ≡ None = ap (narrow wanted.style wanted.limit (widths_of wanted.style full) (table_width (frame_under wanted.style full))) none in
    sym (text-filled wanted.style wanted.limit rows colors)
    ∙ sym (text-natural wanted.style wanted.limit full told colors)
    ∙ texts-same wanted.style (longest_row_length rows) full (long-evened (longest_row_length rows) rows) colors
    ∙ ap (λ (texts : List (List (List ℕ))). ended_table (table_under wanted.style colors texts)) (sym (filled-is rows))
