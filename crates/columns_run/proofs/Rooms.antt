-- Without a width no cell is too wide.
use Rattle.std.proofs.Common.{◌≡◌, ◌&&◌, ℕ, zero, suc, ◌+◌, ◌-◌, ◌<◌, ◌≤◌, min, nat_lt, Bool, true, false, List, [], ◌∷◌, None, length, map, take, drop, refl, ap, subst, ◌∙◌, sym, arith, add-one}
use Rattle.std.specs.Prelude.{chars}
use Rattle.std.specs.List.{filter, find, range_with_len, sum}
use Rattle.std.proofs.lemmas.Bool.Decides.{nat_tests}
use Rattle.columns_asked.specs.DrawnTables.{frame_under, heights_of, longest_row_length, narrow, narrowed, widths_of}
use Rattle.columns_table.proofs.Narrowed.{room-natural}
use Rattle.columns_table.proofs.Natural.{positive-none}
use Rattle.columns_table.proofs.SplitRows.{height-each, width-each}
use Rattle.grid_config.specs.Compact.{Compact}
use Rattle.grid_config.specs.Looks.{compact_look}
use Rattle.grid_config_values.specs.Spans.Owners.{owner}
use Rattle.grid_config_values.specs.Spans.Spans.{extent_at}
use Rattle.grid_config_values.specs.Entities.{table_positions}
use Rattle.grid_config_values.specs.Order.{same_place}
use Rattle.grid_config_values.specs.declared.position.Position.{Position}
use Rattle.grid_records_estimate.proofs.Lengths.{length-evened}
use Rattle.grid_records_estimate.proofs.Rooms.{LeaveRoom-widths}
use Rattle.grid_records_estimate.specs.Sizing.{column_needs, compact_sizing}
use Rattle.grid_records_measure.specs.TextLines.{text_width}
use Rattle.grid_records_estimate.specs.Rows.{evened, text_at}
use Rattle.columns_table.proofs.Estimated.{text_at-evened}
use Rattle.columns_table.proofs.First.{none-in_row-more, none-more}
use Rattle.papergrid_picture.specs.Fitting.{first_too_wide, is_too_wide, need, table_width}
use Rattle.papergrid_picture.specs.Frame.{Frame, block_width, frame_of}
use Rattle.papergrid_picture.specs.Picture.{at}
use Rattle.columns_run.specs.DrawnTables.{encoded_cells, wide_cell}
use Rattle.columns_run.specs.Rows.{stripped}
use Rattle.columns_run.specs.Wanted.{Wanted}

and-false : (b : Bool) → (b && false) ≡ false
and-false true = refl
and-false false = refl

module _ (style : Compact) (texts : List (List (List ℕ))) where
  abbrev columns : ℕ
  columns = longest_row_length texts

  abbrev widths : List ℕ
  widths = widths_of style texts

  abbrev frame : Frame
  frame = frame_under style texts

  abbrev test : Position → Bool
  test = is_too_wide frame texts

  abbrev beside : ℕ
  beside = style.padding.left.size + style.padding.right.size

  -- a column is wide enough for each of its texts
  left : (i j : ℕ) → i < length texts → j < columns → text_width (text_at (evened columns texts) (at i j)) + style.padding.left.size + style.padding.right.size ≤ sum (take 1 (drop j widths))
  unfolding extent_at
  left i j in_rows in_columns =
      let one : min 1 (columns - j) ≡ 1 = omega (arith, in_columns) in
      let cross_track : i < length (evened columns texts) = omega (arith, in_rows, length-evened columns texts) in
      let has : ℕ → Bool = (column_needs (compact_sizing style) columns (evened columns texts)).has_boundary in
      let here = LeaveRoom-widths (compact_sizing style) columns texts j i in_columns cross_track refl (positive-none (at i j)).1 in
      let whole : text_width (text_at (evened columns texts) (at i j)) + style.padding.left.size + style.padding.right.size ≤ sum (take 1 (drop j widths)) + length (filter has (range_with_len (j + 1) (1 - 1))) =
      subst (λ n. text_width (text_at (evened columns texts) (at i j)) + style.padding.left.size + style.padding.right.size ≤ sum (take n (drop j widths)) + length (filter has (range_with_len (j + 1) (n - 1)))) one here in
      omega (arith, whole)

  fits : (i j : ℕ) → i < length texts → j < columns → test (at i j) ≡ false
  fits i j in_rows in_columns =
      let same : text_width (text_at (evened columns texts) (at i j)) ≡ text_width (text_at texts (at i j)) = ap text_width (text_at-evened columns texts i j in_columns) in
      let room : block_width frame (at i j) ≡ sum (take 1 (drop j widths)) = omega arith in
      let enough : need (compact_look style) texts (at i j) ≤ block_width frame (at i j) = omega (arith, left i j in_rows in_columns, same, room) in
      let within : nat_lt (block_width frame (at i j)) (need (compact_look style) texts (at i j)) ≡ false = grind (arith, nat_tests, enough) in
      ap (λ b. same_place (owner (compact_look style).extent (at i j)) (at i j) && b) within ∙ and-false (same_place (owner (compact_look style).extent (at i j)) (at i j))

  none-in_row : (i n : ℕ) → i < length texts → n ≤ columns → find test (map (at i) (range_with_len 0 n)) ≡ None
  none-in_row i zero in_rows h = refl
  none-in_row i (suc n) in_rows h =
      let less : n ≤ columns = omega arith in
      let below : n < columns = omega arith in
      ap (λ m. find test (map (at i) (range_with_len 0 m))) (sym (add-one n)) ∙ none-in_row-more test i n (none-in_row i n in_rows less) (fits i n in_rows below)

  none-in_rows : (n : ℕ) → n ≤ length texts → find test (table_positions n columns) ≡ None
  none-in_rows zero h = refl
  none-in_rows (suc n) h =
      let less : n ≤ length texts = omega arith in
      let below : n < length texts = omega arith in
      let all : columns ≤ columns = omega arith in
      ap (λ m. find test (table_positions m columns)) (sym (add-one n)) ∙ none-more test columns n (none-in_rows n less) (none-in_row n columns below all)

  pub natural-room : first_too_wide frame texts ≡ None
  natural-room = step (heights_of style texts) refl where
    step : (heights : List ℕ) → heights_of style texts ≡ heights → first_too_wide frame texts ≡ None
    step [] none = ap (λ heights. first_too_wide (frame_of (compact_look style) widths heights) texts) none
    step (height ∷ heights) is =
        let some : 0 < length (heights_of style texts) = omega (arith, ap (λ (sizes : List ℕ). length sizes) is) in
        let all : length texts ≤ length texts = omega arith in
        ap (λ n. find test (table_positions n (length widths))) (height-each style texts some) ∙ ap (λ n. find test (table_positions (length texts) n)) (width-each style texts some) ∙ none-in_rows (length texts) all

pub never-wide : (wanted : Wanted) (text : List ℕ) → wanted.limit.width ≡ None → wide_cell wanted text ≡ None
unfolding wide_cell
never-wide wanted text none =
    let style = wanted.style in
    let texts = encoded_cells (chars (stripped text)) in
    let told : narrowed style wanted.limit texts ≡ None = ap (narrow style wanted.limit (widths_of style texts) (table_width (frame_under style texts))) none in
    room-natural style wanted.limit texts told (natural-room style texts)
