-- The rows in their own sizes fit, and print as the rows' text.
use Rattle.std.proofs.Common.{◌≡◌, ◌≢◌, ◌==◌, ℕ, ◌+◌, ◌<◌, Bool, true, false, Option, None, List, [], ◌∷◌, ◌++◌, map, length, sum, slice_index, refl, ap, sym, subst, ◌∙◌, arith, if◌then◌else◌}
use Rattle.std.specs.Prelude.{Err, Ok, OnOk, Result}
use Rattle.std.proofs.lemmas.Bool.Decides.{nat_tests}
use Rattle.grid_config.specs.Compact.{Compact}
use Rattle.grid_config.specs.Looks.{compact_look, look_of}
use Rattle.grid_config.specs.Settings.{Settings, StartsWith, compact_start}
use Rattle.grid_config.proofs.Looks.{same_look}
use Rattle.grid_config.specs.Colors.{Color}
use Rattle.grid_config_values.specs.Spans.Spans.{AreGood, ArePositive, extent_at}
use Rattle.grid_config_values.proofs.SpansLemmas.Parting.{good_without}
use Rattle.grid_config_values.specs.declared.position.Position.{Position}
use Rattle.grid_records_estimate.specs.Estimates.{greatest}
use Rattle.grid_records_estimate.specs.Sizes.{table_widths}
use Rattle.grid_records_estimate.specs.Sizing.{sizing_of}
use Rattle.grid_records_estimate.proofs.Compact.{compact-sizing}
use Rattle.grid_records_measure.specs.TextLines.{line_feed}
use Rattle.papergrid_fits.specs.Grids.{grid_text}
use Rattle.papergrid_fits.specs.Tables.{CanBeDrawn, sized_frame}
use Rattle.papergrid_fits.proofs.Estimated.{none-too_wide}
use Rattle.papergrid_picture.specs.Fitting.{InRange, first_too_wide}
use Rattle.papergrid_picture.specs.Frame.{Frame, frame_of, line_count}
use Rattle.papergrid_picture.specs.Tables.{sizes_of, table_text}
use Rattle.papergrid_picture.proofs.ByNumber.{by_number}
use Rattle.columns_asked.specs.DrawnTables.{frame_under, heights_of, longest_row_length, widths_of}
use Rattle.columns_table.specs.Answers.{natural_text}
use Rattle.columns_table.specs.Records.{placed_texts, starts_from}
use Rattle.columns_table.specs.Rows.{cell_texts}
use Rattle.columns_table.specs.declared.cells.LineCell.{LineCell}
use Rattle.columns_table.proofs.PlacedRows.{placed-split}
use Rattle.columns_table.proofs.SplitRows.{columns-split, split_texts, height-each, none-high, width-each}

-- as many lines under the settings as under their style
pub lines-are : (style : Compact) (settings : Settings) → StartsWith (compact_start style) settings → (wide high widths heights : List ℕ) (lines : ℕ) → widths ≡ wide → heights ≡ high
    → lines ≡ line_count (frame_of (compact_look style) wide high) → lines ≡ line_count (frame_of (look_of settings) widths heights)
lines-are style settings start wide high widths heights lines across down is =
    is ∙ (ap (λ look. line_count (frame_of look wide high)) (sym (same_look style settings start))
    ∙ (ap (λ ws. line_count (frame_of (look_of settings) ws high)) (sym across) ∙ ap (λ hs. line_count (frame_of (look_of settings) widths hs)) (sym down)))

-- what always holds
pub OnOk-always : {T E P : Type 0} (r : Result T E) → P → OnOk r P
OnOk-always (Ok x) p = p
OnOk-always (Err e) p = tt

pub positive-none : ArePositive []
unfolding extent_at
positive-none = λ place. (omega arith, omega arith)

-- spans that are good are none
pub good-spans : (style : Compact) (settings : Settings) → StartsWith (compact_start style) settings → (rows columns : ℕ) → AreGood settings.spans rows columns
good-spans style settings start rows columns = subst (λ spans. AreGood spans rows columns) (sym start.spans) (good_without rows columns)

-- the rows that are looked up are those that the cells are split into
pub records-are : (counts : List ℕ) (cells : List LineCell) → sum counts ≡ length cells → placed_texts (starts_from 0 counts) cells ≡ split_texts counts cells
records-are counts cells whole =
    let all : 0 + sum counts ≡ length cells = omega (arith, whole) in
    ap (map cell_texts) (placed-split 0 counts cells all)

some_sizes : (n : ℕ) (sizes : List ℕ) → (sizes ≡ [] → n ≡ 0) → n ≢ 0 → 0 < length sizes
some_sizes n [] none some = absurd (some (none refl))
some_sizes n (size ∷ sizes) none some = omega arith

-- a table with lines has heights
pub some-heights : (style : Compact) (texts : List (List (List ℕ))) → line_count (frame_under style texts) ≢ 0 → 0 < length (heights_of style texts)
some-heights style texts some =
    some_sizes (line_count (frame_under style texts)) (heights_of style texts) (λ none. ap (λ sizes. line_count (frame_of (compact_look style) (widths_of style texts) sizes)) none ∙ (none-high style (widths_of style texts)).0) some

module _ (style : Compact) (settings : Settings) (start : StartsWith (compact_start style) settings) (counts : List ℕ) (cells : List LineCell) (whole : sum counts ≡ length cells) where
  abbrev texts : List (List (List ℕ))
  texts = split_texts counts cells

  abbrev records : List (List (List ℕ))
  records = placed_texts (starts_from 0 counts) cells

  module _ (widths heights : List ℕ) (wide : widths ≡ widths_of style (split_texts counts cells)) (high : heights ≡ heights_of style (split_texts counts cells)) (some : 0 < length (heights_of style (split_texts counts cells))) where
    width-count : length widths ≡ greatest counts
    width-count = ap (λ sizes. length sizes) wide ∙ width-each style texts some ∙ columns-split counts cells whole

    height-count : length heights ≡ length texts
    height-count = ap (λ sizes. length sizes) high ∙ height-each style texts some

    pub listed : (columns : ℕ) → columns ≡ greatest counts → (length widths ≡ columns) × (length heights ≡ length records)
    listed columns counted = (width-count ∙ sym counted, height-count ∙ ap (λ (rows : List (List (List ℕ))). length rows) (sym (records-are counts cells whole)))

    sized-is : (rows : ℕ) → rows ≡ length texts → sized_frame settings (slice_index widths) (slice_index heights) (greatest counts) rows ≡ frame_under style texts
    sized-is rows counted =
        ap (λ look. frame_of look (sizes_of (slice_index widths) (greatest counts)) (sizes_of (slice_index heights) rows)) (same_look style settings start)
        ∙ ap (λ sizes. frame_of (compact_look style) sizes (sizes_of (slice_index heights) rows)) (by_number widths (greatest counts) width-count ∙ wide)
        ∙ ap (frame_of (compact_look style) (widths_of style texts)) (by_number heights rows (height-count ∙ sym counted) ∙ high)

    room-by_number : first_too_wide (sized_frame settings (slice_index widths) (slice_index heights) (greatest counts) (length texts)) texts ≡ None
    room-by_number =
        let good : AreGood settings.spans (length texts) (greatest counts) = good-spans style settings start (length texts) (greatest counts) in
        let positive : ArePositive settings.spans = subst ArePositive (sym start.spans) positive-none in
        let estimated : widths ≡ table_widths (sizing_of settings) (greatest counts) texts =
        wide ∙ ap (λ sizing. table_widths sizing (longest_row_length texts) texts) (sym (compact-sizing style settings start)) ∙ ap (λ n. table_widths (sizing_of settings) n texts) (columns-split counts cells whole) in
        subst (λ sizes. first_too_wide (sized_frame settings (slice_index sizes) (slice_index heights) (greatest counts) (length texts)) texts ≡ None) (sym estimated)
        (none-too_wide settings (greatest counts) texts (slice_index heights) positive good)

    room-under : first_too_wide (frame_under style texts) texts ≡ None
    room-under = subst (λ (frame : Frame). first_too_wide frame texts ≡ None) (sized-is (length texts) refl) room-by_number

    module _ (range : InRange (frame_under style (split_texts counts cells))) where
      fits-texts : CanBeDrawn settings (slice_index widths) (slice_index heights) (greatest counts) texts
      fits-texts = record { good = good-spans style settings start (length texts) (greatest counts); range = subst InRange (sym (sized-is (length texts) refl)) range; room = room-by_number }

      pub fits : (columns : ℕ) → columns ≡ greatest counts → CanBeDrawn settings (slice_index widths) (slice_index heights) columns records
      fits columns counted =
          subst (λ n. CanBeDrawn settings (slice_index widths) (slice_index heights) n records) (sym counted)
          (subst (CanBeDrawn settings (slice_index widths) (slice_index heights) (greatest counts)) (sym (records-are counts cells whole)) fits-texts)

    prints-some : (colors : Position → Option Color) (columns : ℕ) → columns ≡ greatest counts
        → grid_text (look_of settings) (slice_index widths) (slice_index heights) colors columns records ≡ table_text (compact_look style) texts colors (widths_of style texts) (heights_of style texts)
    prints-some colors columns counted =
        ap (λ n. grid_text (look_of settings) (slice_index widths) (slice_index heights) colors n records) counted
        ∙ ap (λ rows. grid_text (look_of settings) (slice_index widths) (slice_index heights) colors (greatest counts) rows) (records-are counts cells whole)
        ∙ ap (λ look. table_text look texts colors (sizes_of (slice_index widths) (greatest counts)) (sizes_of (slice_index heights) (length texts))) (same_look style settings start)
        ∙ ap (λ sizes. table_text (compact_look style) texts colors sizes (sizes_of (slice_index heights) (length texts))) (by_number widths (greatest counts) width-count ∙ wide)
        ∙ ap (λ sizes. table_text (compact_look style) texts colors (widths_of style texts) sizes) (by_number heights (length texts) height-count ∙ high)

  -- no cell is wider than its column, also where there are no rows
  pub natural-room : first_too_wide (frame_under style texts) texts ≡ None
  natural-room = step (heights_of style texts) refl where
    step : (heights : List ℕ) → heights_of style texts ≡ heights → first_too_wide (frame_under style texts) texts ≡ None
    step [] none = ap (λ heights. first_too_wide (frame_of (compact_look style) (widths_of style texts) heights) texts) none
    step (height ∷ heights) is =
        let some : 0 < length (heights_of style texts) = omega (arith, ap (λ (sizes : List ℕ). length sizes) is) in
        room-under (widths_of style texts) (heights_of style texts) refl refl some

  -- what is printed where there are lines, and where there are none
  pub prints : (colors : Position → Option Color) (widths heights : List ℕ) (lines columns : ℕ) → widths ≡ widths_of style texts → heights ≡ heights_of style texts → lines ≡ line_count (frame_under style texts) → columns ≡ greatest counts
      → (if lines == 0 then [] else grid_text (look_of settings) (slice_index widths) (slice_index heights) colors columns records ++ line_feed ∷ []) ≡ natural_text style colors texts
  prints colors widths heights lines columns wide high counted is = step (lines == 0) refl ∙ ap (λ n. if n == 0 then [] else table_text (compact_look style) texts colors (widths_of style texts) (heights_of style texts) ++ line_feed ∷ []) counted where
    step : (b : Bool) → (lines == 0) ≡ b
        → (if lines == 0 then [] else grid_text (look_of settings) (slice_index widths) (slice_index heights) colors columns records ++ line_feed ∷ [])
        ≡ (if lines == 0 then [] else table_text (compact_look style) texts colors (widths_of style texts) (heights_of style texts) ++ line_feed ∷ [])
    step true e =
        ap (λ (b : Bool). if b then [] else grid_text (look_of settings) (slice_index widths) (slice_index heights) colors columns records ++ line_feed ∷ []) e
        ∙ sym (ap (λ (b : Bool). if b then [] else table_text (compact_look style) texts colors (widths_of style texts) (heights_of style texts) ++ line_feed ∷ []) e)
    step false e =
        let some : line_count (frame_under style texts) ≢ 0 = λ none. let zero_lines : lines ≡ 0 = counted ∙ none in grind (arith, nat_tests, e, zero_lines) in
        ap (λ (text : List ℕ). if lines == 0 then [] else text ++ line_feed ∷ []) (prints-some widths heights wide high (some-heights style texts some) colors columns is)
