-- Streamed and compact tables print what tables print that keep their sizes, and their texts are whole.
use Rattle.std.proofs.Common.{◌≡◌, ◌-◌, nat_le, ℕ, Bool, true, false, List, [], ◌∷◌, Option, None, Some, length, replicate, take, drop, refl, sym, ◌∙◌, arith, length-append, if◌then◌else◌}
use Rattle.std.specs.List.{AllByRecursion}
use Rattle.std.proofs.lemmas.List.{length-replicate, length-take}
use Rattle.std.proofs.lemmas.List.FromFn.{length-map-range_with_len}
use Rattle.grid_config.specs.Colors.{Color}
use Rattle.grid_config.specs.Looks.{Look}
use Rattle.grid_config_values.specs.declared.position.Position.{Position}
use Rattle.grid_records_measure.specs.CutTexts.{cut_at, truncated_text}
use Rattle.grid_records_measure.specs.TextLines.{text_width}
use Rattle.grid_records.specs.RecordRows.Truncating.{next_column, truncated_row, truncated_rows}
use Rattle.grid_records_traits.specs.Rows.{evened, evened_row}
use Rattle.papergrid_picture.specs.Shown.{AreWholeTexts, IsWholeText}
use Rattle.papergrid_picture.specs.Tables.{sizes_of, table_text}
use Rattle.papergrid_picture.proofs.Related.{All-append, All-map_of, All-replicate}
use Rattle.papergrid_picture.proofs.Shown.{All-drop, All-take, ShowsHere-nothing}
use Rattle.tabled_compact.specs.Tables.{Compacted, first_or_all, shown_rows as compact_rows}
use Rattle.tabled_compact.specs.Iter.Tables.{Streamed, content_widths, shown_rows as streamed_rows, stream_columns}
use Rattle.tabled_size_wrap.proofs.CellsLemmas.Bridges.{cut-shows_whole}
use Rattle.tabled_size.specs.Dimension.Sizes.{given_size}
use Rattle.tabled_list.specs.Stripping.Printing.{printed}
use Rattle.tables_laws.specs.Shown.OtherTables.{grid_state}
use Rattle.tables_laws.proofs.ShownLemmas.SizedTables.{printed-sized}

-- ---- sizes

evened-length : (n : ℕ) (row : List (List ℕ)) → length (evened_row n row) ≡ n
evened-length n row =
    let none : List ℕ = [] in
    let joined = length-append (take n row) (replicate (n - length row) none) in
    let kept = length-take n row in
    let more = length-replicate (n - length row) none in
    omega (arith, joined, kept, more)

module _ (look : Look) (width height : ℕ → ℕ) (colors : Position → Option Color) (columns : ℕ) where
  abbrev text_in : List (List (List ℕ)) → List ℕ
  text_in rows = table_text look rows colors (sizes_of width columns) (sizes_of height (length rows))

  pub printed-in_grid : (rows : List (List (List ℕ))) → text_in (evened columns rows) ≡ printed (grid_state look width height colors columns (evened columns rows))
  printed-in_grid [] = refl
  printed-in_grid (row ∷ rows) =
      let all = evened columns (row ∷ rows) in
      sym (printed-sized look all colors (sizes_of width columns) (sizes_of height (length all))
      (length-map-range_with_len width 0 columns ∙ sym (evened-length columns row))
      (length-map-range_with_len height 0 (length all)))

-- ---- texts

whole-nothing : IsWholeText []
whole-nothing = record { utf8 = ShowsHere-nothing.utf8; whole = ShowsHere-nothing.closed.none_broken }

evened-whole : (n : ℕ) (rows : List (List (List ℕ))) → AreWholeTexts rows → AreWholeTexts (evened n rows)
evened-whole n rows whole =
    All-map_of (AllByRecursion IsWholeText) (AllByRecursion IsWholeText) (evened_row n)
    (λ row all. All-append IsWholeText (take n row) (replicate (n - length row) []) (All-take IsWholeText n row all) (All-replicate IsWholeText (n - length row) [] whole-nothing)) rows whole

text-truncated : (width : ℕ) (text : List ℕ) → IsWholeText text → IsWholeText (truncated_text width text)
text-truncated width text is = by (nat_le (text_width text) width)
  where
    by : (b : Bool) → IsWholeText (if b then text else cut_at width text)
    by true = is
    by false = (cut-shows_whole text is width).whole

row-truncated : (width : ℕ → ℕ) (column : ℕ) (row : List (List ℕ)) → AllByRecursion IsWholeText row → AllByRecursion IsWholeText (truncated_row width column row)
row-truncated width column [] all = tt
row-truncated width column (text ∷ row) all = (text-truncated (width column) text all.0, row-truncated width (next_column column) row all.1)

truncated-whole : (width : ℕ → ℕ) (rows : List (List (List ℕ))) → AreWholeTexts rows → AreWholeTexts (truncated_rows width rows)
truncated-whole width rows whole = All-map_of (AllByRecursion IsWholeText) (AllByRecursion IsWholeText) (truncated_row width 0) (row-truncated width 0) rows whole

first-whole : (kept : Option ℕ) (rows : List (List (List ℕ))) → AreWholeTexts rows → AreWholeTexts (first_or_all kept rows)
first-whole None rows whole = whole
first-whole (Some count) rows whole = All-take (AllByRecursion IsWholeText) count rows whole

pub streamed-whole : (table : Streamed) → AreWholeTexts table.rows → AreWholeTexts (streamed_rows table)
streamed-whole table whole =
    let widths = given_size (content_widths table) in
    let kept = first_or_all table.kept table.rows in
    evened-whole (stream_columns table) (truncated_rows widths kept) (truncated-whole widths kept (first-whole table.kept table.rows whole))

pub compact-whole : (table : Compacted) → AreWholeTexts table.rows → AreWholeTexts (compact_rows table)
compact-whole table whole =
    let left = drop table.skipped table.rows in
    evened-whole table.columns (first_or_all table.kept left) (first-whole table.kept left (All-drop (AllByRecursion IsWholeText) table.skipped table.rows whole))
