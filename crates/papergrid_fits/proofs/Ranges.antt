-- The totals of a table that is sized by numbers.
use Rattle.std.proofs.Common.{◌≡◌, ◌↔◌, ◌==◌, ◌||◌, ℕ, ◌+◌, ◌^◌, ◌<◌, Bool, true, false, List, Option, None, Some, SomeIff, is_some, if◌then◌else◌, map, refl, ap, sym, subst, ◌∙◌, arith}
use Rattle.std.specs.List.{find, range_with_len}
use Rattle.std.proofs.lemmas.Bool.{true≢false}
use Rattle.std.proofs.lemmas.List.FromFn.{length-map-range_with_len}
use Rattle.ansi_scan.proofs.Comparing.{not_zero}
use Rattle.grid_config_values.specs.Entities.{table_positions}
use Rattle.grid_config_values.specs.Glyphs.{boundary_kind, has_column_boundary, has_row_boundary}
use Rattle.grid_config_values.specs.declared.position.Position.{Position}
use Rattle.grid_config.specs.Settings.{Settings}
use Rattle.papergrid_picture.specs.Fitting.{InRange, first_too_wide, is_too_wide, table_width}
use Rattle.papergrid_picture.specs.Frame.{column_count, full_line_width, line_count, row_count, track_at}
use Rattle.papergrid_fits.specs.Tables.{column_tracks, row_tracks, sized_frame}

not_both : {A : Type 0} (b : Bool) → b ≡ true → b ≡ false → A
not_both b on off = absurd (true≢false (sym on ∙ off))

pub some-told : (P : Type 0) (v : ℕ) (result : Option ℕ) → SomeIff result P v → is_some result ≡ true → P
some-told P v None told is = absurd (true≢false (sym is))
some-told P v (Some x) told is = told.0

pub told-some : (P : Type 0) (v : ℕ) (result : Option ℕ) → SomeIff result P v → P → is_some result ≡ true
told-some P v None told holds = absurd (told holds)
told-some P v (Some x) told holds = refl

module _ (settings : Settings) (width height : ℕ → ℕ) (columns rows : ℕ) where
  columns-are : column_count (sized_frame settings width height columns rows) ≡ columns
  columns-are = length-map-range_with_len width 0 columns

  rows-are : row_count (sized_frame settings width height columns rows) ≡ rows
  rows-are = length-map-range_with_len height 0 rows

  none_not : (n m : ℕ) → 0 < m → n ≡ m → (n == 0) ≡ false
  none_not n m some same = not_zero n (omega (arith, some, same))

  pub table_width-is : 0 < rows → 0 < columns → table_width (sized_frame settings width height columns rows) ≡ track_at (column_tracks settings width columns) columns + settings.margin.right.size
  table_width-is some_rows some_columns =
      let whole : ℕ = full_line_width (sized_frame settings width height columns rows) in
      ap (λ b. if b || (column_count (sized_frame settings width height columns rows) == 0) then 0 else whole) (none_not (row_count (sized_frame settings width height columns rows)) rows some_rows rows-are)
      ∙ ap (λ b. if b then 0 else whole) (none_not (column_count (sized_frame settings width height columns rows)) columns some_columns columns-are)
      ∙ ap (λ n. track_at (record { margin = settings.margin.left.size; sizes = map width (range_with_len 0 columns); has_boundary = λ j. has_column_boundary settings.borders (boundary_kind j n) }) n + settings.margin.right.size) columns-are

  pub line_count-is : 0 < rows → 0 < columns → line_count (sized_frame settings width height columns rows) ≡ track_at (row_tracks settings height rows) rows + settings.margin.bottom.size
  line_count-is some_rows some_columns =
      let whole : ℕ = track_at (sized_frame settings width height columns rows).rows (row_count (sized_frame settings width height columns rows)) + settings.margin.bottom.size in
      ap (λ b. if b then 0 else if column_count (sized_frame settings width height columns rows) == 0 then 0 else whole) (none_not (row_count (sized_frame settings width height columns rows)) rows some_rows rows-are)
      ∙ ap (λ b. if b then 0 else whole) (none_not (column_count (sized_frame settings width height columns rows)) columns some_columns columns-are)
      ∙ ap (λ n. track_at (record { margin = settings.margin.top.size; sizes = map height (range_with_len 0 rows); has_boundary = λ i. has_row_boundary settings.borders (boundary_kind i n) }) n + settings.margin.bottom.size) rows-are

  abbrev pub all_columns : ℕ
  all_columns = track_at (column_tracks settings width columns) columns + settings.margin.right.size

  abbrev pub all_lines : ℕ
  all_lines = track_at (row_tracks settings height rows) rows + settings.margin.bottom.size

  module _ (w h : Option ℕ) (some_rows : 0 < rows) (some_columns : 0 < columns)
      (w_told : let total = track_at (column_tracks settings width columns) columns + settings.margin.right.size in SomeIff w (total < 2 ^ 64) total)
      (h_told : let total = track_at (row_tracks settings height rows) rows + settings.margin.bottom.size in SomeIff h (total < 2 ^ 64) total) where
    in_range : is_some w ≡ true → is_some h ≡ true → InRange (sized_frame settings width height columns rows)
    in_range w_is h_is =
        (subst (λ n. n < 2 ^ 64) (sym (table_width-is some_rows some_columns)) (some-told (all_columns < 2 ^ 64) all_columns w w_told w_is), subst (λ n. n < 2 ^ 64) (sym (line_count-is some_rows some_columns)) (some-told (all_lines < 2 ^ 64) all_lines h h_told h_is))

    pub in_range-both : (answer : Bool) → is_some w ≡ true → answer ≡ is_some h → (answer ≡ true) ↔ InRange (sized_frame settings width height columns rows)
    in_range-both answer w_is e =
        ((λ on. in_range w_is (sym e ∙ on)), (λ fits. e ∙ told-some (all_lines < 2 ^ 64) all_lines h h_told (subst (λ n. n < 2 ^ 64) (line_count-is some_rows some_columns) fits.1)))

  pub in_range-not : (w : Option ℕ) (answer : Bool) → 0 < rows → 0 < columns → SomeIff w (all_columns < 2 ^ 64) all_columns → is_some w ≡ false → answer ≡ is_some w
      → (answer ≡ true) ↔ InRange (sized_frame settings width height columns rows)
  in_range-not w answer some_rows some_columns told w_is e = (
    (λ on. not_both (is_some w) (sym e ∙ on) w_is),
    (λ fits. e ∙ told-some (all_columns < 2 ^ 64) all_columns w told (subst (λ n. n < 2 ^ 64) (table_width-is some_rows some_columns) fits.0)),
  )

  -- the cells of the table, by the frame
  pub first-is : (texts : List (List (List ℕ))) → find (is_too_wide (sized_frame settings width height columns 0) texts) (table_positions rows columns) ≡ first_too_wide (sized_frame settings width height columns rows) texts
  first-is texts =
      let test : Position → Bool = is_too_wide (sized_frame settings width height columns rows) texts in
      ap (λ n. find test (table_positions n columns)) (sym rows-are) ∙ ap (λ n. find test (table_positions (row_count (sized_frame settings width height columns rows)) n)) (sym columns-are)
