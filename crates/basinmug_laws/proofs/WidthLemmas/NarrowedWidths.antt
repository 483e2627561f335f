-- A table that is made narrower is at most as wide as is requested, where each of its columns can have one column of text.
use Rattle.std.proofs.Common.{inl, inr, ◌⊎◌, ◌≡◌, ◌≤◌, ◌<◌, ◌+◌, ◌-◌, nat_le, nat_lt, min, ℕ, zero, suc, Bool, true, false, List, [], ◌∷◌, Option, None, Some, length, map, sum, get_or, unwrap_or, refl, ap, sym, subst, ◌∙◌, arith, if◌then◌else◌}
use Rattle.std.specs.Prelude.{MatchBool, MatchOption}
use Rattle.std.specs.List.{AllByRecursion, range_with_len}
use Rattle.std.proofs.lemmas.Bool.Decides.{nat_tests}
use Rattle.std.proofs.lemmas.List.{get_or-map}
use Rattle.std.proofs.lemmas.List.FromFn.{get_or-map-range_with_len, length-map-range_with_len}
use Rattle.std.proofs.lemmas.List.Sums.{sum_by-cons}
use Rattle.grid_config_values.specs.Entities.{covered_positions}
use Rattle.grid_config_values.specs.declared.borders.Borders.{Borders as Glyphs}
use Rattle.grid_config_values.specs.declared.entity.Entity.TheVariants.{Global as EveryCell}
use Rattle.grid_config_values.specs.declared.position.Position.{Position}
use Rattle.grid_records_estimate.specs.Sizing.{position_at}
use Rattle.grid_records_measure.specs.TextLines.{text_width}
use Rattle.grid_records_traits.specs.Rows.{row_at, text_at}
use Rattle.papergrid_picture.specs.Shown.{AreWholeTexts}
use Rattle.papergrid_picture.proofs.Related.{All-get_or}
use Rattle.papergrid_picture.proofs.Shown.{whole-at}
use Rattle.tabled.specs.Printing.{drawn_widths}
use Rattle.tabled.specs.Totals.{drawn_width}
use Rattle.tabled_list.specs.Lists.{LeadsThrough}
use Rattle.tabled_size_priority.specs.declared.choice.Choice.{Choice}
use Rattle.tabled_steps.specs.Changes.{changed_rows}
use Rattle.tabled_steps.specs.States.{State, column_count}
use Rattle.tabled_steps.proofs.ChangedTexts.{row-count, text-at, text-count}
use Rattle.basinmug_columns.specs.Needs.{need_of}
use Rattle.basinmug_columns.specs.Rooms.{can_give, empty_column, kept_rooms, least_rooms, narrow_room, need_at, needed_room, needed_rooms, one_column, two_columns}
use Rattle.basinmug_columns.specs.declared.rooms.Need.{Need}
use Rattle.basinmug_columns.proofs.Between.{rooms-count, rooms-enough, rooms-kept, sum-rooms as rooms-sum}
use Rattle.basinmug_columns.proofs.Sums.{kept-needed, placed-at}
use Rattle.basinmug_run.specs.declared.options.Options.{Options}
use Rattle.basinmug_run.specs.Picture.Fitting.{fitted, fitted_text, is_narrowed, trims, with_fitted_texts}
use Rattle.basinmug_run.specs.Picture.Narrowing.{AreAsked, FitsTexts}
use Rattle.basinmug_columns.specs.declared.rows.RowsShown.{RowsShown}
use Rattle.basinmug_run.specs.Picture.Pictures.{IsTable, cells_in, narrowed_to, needs_in, numeric_of}
use Rattle.basinmug_run.specs.Picture.Rows.{header_of, records_of}
use Rattle.basinmug_run.specs.Picture.Settings.{glyphs_of}
use Rattle.tabled_text.specs.Rows.{filled}
use Rattle.basinmug_laws.proofs.WidthLemmas.FittedWidths.{fitted-within}
use Rattle.basinmug_laws.proofs.WidthLemmas.FramedTables.{IsFramed, settings-framed, trimmed-framed}
use Rattle.basinmug_laws.proofs.WidthLemmas.OwnWidths.{AreEven, count-even, lines_of, own_width, own_width-holds, own_width-most, own_widths, some-rows, widths-are, width-most, width-some}

-- ---- each column keeps its paddings

-- what each column needs includes a padding at each side
abbrev pub ArePadded : List Need → Type 0
ArePadded needs = AllByRecursion (λ need. 2 ≤ need.width) needs

padded-of : (header : List (List ℕ)) (records : List (List (List ℕ))) (numeric : List Bool) (columns : List ℕ) → ArePadded (map (need_of header records numeric) columns)
padded-of header records numeric [] = tt
padded-of header records numeric (column ∷ columns) = (omega arith, padded-of header records numeric columns)

pub needs-padded : (header : Bool) (rows : List (List (List ℕ))) → ArePadded (needs_in header rows)
needs-padded header rows =
    let numeric = numeric_of header rows in
    padded-of (header_of header rows) (records_of header rows) numeric (range_with_len 0 (length numeric))

module _ (needs : List Need) (by : ℕ) (widths : List ℕ) (padded : ArePadded needs) (k : ℕ) (inside : k < length widths) (wide : 2 ≤ get_or widths k 0) where
  least-two : (room : ℕ) → 3 ≤ room → 2 ≤ get_or (least_rooms room widths) k 0
  least-two room enough = let at : get_or (least_rooms room widths) k 0 ≡ min (get_or widths k 0) room = get_or-map (λ width. min width room) widths k 0 0 inside in omega (arith, at, wide, enough)

  needed-two : 2 ≤ get_or (needed_rooms needs widths) k 0
  needed-two =
      let at : get_or (needed_rooms needs widths) k 0 ≡ min (get_or widths k 0) (need_at needs k).width = placed-at (needed_room needs) widths k inside in
      let some : 2 ≤ (need_at needs k).width = All-get_or (λ (need : Need). 2 ≤ need.width) needs k empty_column padded (omega arith) in
      omega (arith, at, some, wide)

  narrow-three : (two one : Bool) → 3 ≤ (if two then two_columns else if one then one_column else two_columns)
  narrow-three true one = omega arith
  narrow-three false true = omega arith
  narrow-three false false = omega arith

  kept-two : 2 ≤ get_or (kept_rooms needs by widths) k 0
  kept-two = either (can_give by widths (needed_rooms needs widths))
    where
      either : (b : Bool) → 2 ≤ get_or (if b then needed_rooms needs widths else least_rooms (narrow_room by widths) widths) k 0
      either true = needed-two
      either false = least-two (narrow_room by widths) (narrow-three (can_give by widths (least_rooms two_columns widths)) (can_give by widths (least_rooms one_column widths)))

-- ---- sums

sum-most : (f : ℕ → ℕ) (xs : List ℕ) (a : ℕ) → ((k : ℕ) → k < length xs → f (a + k) ≤ get_or xs k 0) → sum (map f (range_with_len a (length xs))) ≤ sum xs
sum-most f [] a each = omega arith
sum-most f (x ∷ xs) a each =
    let here : a + 0 ≡ a = omega arith in
    let first : f (a + 0) ≤ x = each 0 (omega arith) in
    omega (arith, sum_by-cons (λ y. y) (f a) (map f (range_with_len (a + 1) (length xs))), sum_by-cons (λ y. y) x xs, ap f here, first, sum-most f xs (a + 1) (λ k below. let step : a + 1 + k ≡ a + suc k = omega arith in let next : f (a + suc k) ≤ get_or xs k 0 = each (suc k) (omega (arith, below)) in omega (arith, ap f step, next)))

-- ---- rows whose texts are fitted

module _ (truncate : Bool) (widths rooms : List ℕ) (cells : List (List (List ℕ))) (n : ℕ) (even : AreEven n cells) where
  abbrev changes : Position → List ℕ → Option (List ℕ)
  changes place = fitted truncate widths rooms place.col

  abbrev pub fitted_cells : List (List (List ℕ))
  fitted_cells = changed_rows changes EveryCell (column_count cells) cells

  as-many : length fitted_cells ≡ length cells
  as-many = row-count changes cells (covered_positions EveryCell (length cells) (column_count cells))

  even-at : (rows : List (List (List ℕ))) → AreEven n rows → (i : ℕ) → i < length rows → length (row_at rows i) ≡ n
  even-at [] all i inside = absurd (omega (arith, inside))
  even-at (row ∷ rows) all zero inside = all.0
  even-at (row ∷ rows) all (suc i) inside = even-at rows all.1 i (omega (arith, inside))

  even-from : (rows : List (List (List ℕ))) → ((i : ℕ) → i < length rows → length (row_at rows i) ≡ n) → AreEven n rows
  even-from [] each = tt
  even-from (row ∷ rows) each = (each 0 (omega arith), even-from rows (λ i inside. each (suc i) (omega (arith, inside))))

  pub still-even : AreEven n fitted_cells
  still-even =
      even-from fitted_cells
      (λ i inside. let there : i < length cells = omega (arith, inside, as-many) in text-count changes cells i there (covered_positions EveryCell (length cells) (column_count cells)) ∙ even-at cells even i there)

  module _ (whole : AreWholeTexts cells) (some : 0 < length cells) (column : ℕ) (below : column < n) (padded : 2 ≤ get_or rooms column 0) (wide : get_or widths column 0 ≡ own_width cells column) where
    abbrev room : ℕ
    room = get_or rooms column 0

    text-within : (row : ℕ) → row < length cells → text_width (text_at fitted_cells (position_at row column)) + 2 ≤ room
    text-within row there =
        let place = position_at row column in
        let text = text_at cells place in
        let inside : column < length (row_at cells row) = omega (arith, below, even-at cells even row there) in
        let of_table : column < column_count cells = omega (arith, below, count-even n cells even some) in
        let is : text_at fitted_cells place ≡ unwrap_or (changes place text) text = text-at changes cells place (there, inside) EveryCell of_table in
        let own : text_width text + 2 ≤ own_width cells column = own_width-holds cells column row there in
        subst (λ (found : List ℕ). text_width found + 2 ≤ room) (sym is) (by (is_narrowed widths rooms column) (nat_lt (room - 2) (text_width text)) refl refl own)
      where
        by : (narrowed wider : Bool) → is_narrowed widths rooms column ≡ narrowed → nat_lt (get_or rooms column 0 - 2) (text_width (text_at cells (position_at row column))) ≡ wider
            → text_width (text_at cells (position_at row column)) + 2 ≤ own_width cells column
            → text_width (unwrap_or (if narrowed then (if wider then Some (fitted_text truncate (get_or rooms column 0 - 2) (text_at cells (position_at row column))) else None) else None) (text_at cells (position_at row column))) + 2 ≤ room
        by true true e less own =
            let fits = fitted-within truncate (get_or rooms column 0 - 2) (text_at cells (position_at row column)) (whole-at cells whole (position_at row column)) in
            omega (arith, fits, padded)
        by true false e less own = grind (arith, nat_tests, less, padded)
        by false wider e less own = let stays : get_or widths column 0 ≤ get_or rooms column 0 = grind (arith, nat_tests, e) in omega (arith, own, wide, stays)

    column-within : own_width fitted_cells column ≤ room
    column-within = own_width-most fitted_cells column room (λ row inside. text-within row (omega (arith, inside, as-many)))

-- ---- a table

-- what the boundaries and one column of text for each column take
abbrev pub least_width : Glyphs ℕ → List (List (List ℕ)) → ℕ → ℕ
least_width glyphs cells n = lines_of glyphs n + sum (least_rooms one_column (own_widths cells n))

-- the width has one column of text for each column, or what each of them needs
abbrev pub HaveRoom : List Need → Glyphs ℕ → List (List (List ℕ)) → ℕ → ℕ → Type 0
HaveRoom needs glyphs cells n width = (least_width glyphs cells n ≤ width) ⊎ (lines_of glyphs n + sum (needed_rooms needs (own_widths cells n)) ≤ width)

module _ (truncate : Bool) (priority : Choice) (needs : List Need) (padded : ArePadded needs) (width : ℕ) (glyphs : Glyphs ℕ) (cells : List (List (List ℕ))) (n : ℕ) (even : AreEven n cells) (whole : AreWholeTexts cells)
    (after s : State) (framed : IsFramed glyphs cells after) (enough : 0 < length cells → HaveRoom needs glyphs cells n width) where
  abbrev widths : List ℕ
  widths = drawn_widths after

  module _ (wider : width < drawn_width after) (rooms : List ℕ) (asked : AreAsked truncate priority needs width after rooms) (leads : LeadsThrough (trims truncate (drawn_widths after) rooms) (with_fitted_texts truncate (drawn_widths after) rooms after) s) where
    positive : 0 < drawn_width after
    positive = omega (arith, wider)

    some : 0 < length cells
    some = some-rows glyphs cells after framed positive

    are : widths ≡ own_widths cells n
    are = widths-are glyphs cells after framed n even some

    count : length widths ≡ n
    count = ap (λ (xs : List ℕ). length xs) are ∙ length-map-range_with_len (own_width cells) 0 n

    at : (k : ℕ) → k < n → get_or widths k 0 ≡ own_width cells k
    at k below = ap (λ (xs : List ℕ). get_or xs k 0) are ∙ get_or-map-range_with_len (own_width cells) 0 n k k 0 below (omega arith)

    total : drawn_width after ≡ sum widths + lines_of glyphs n
    total = width-some glyphs cells after framed positive ∙ ap (λ (m : ℕ). sum widths + lines_of glyphs m) count

    -- the given widths are what is left beside the boundaries
    sum-rooms : sum rooms + lines_of glyphs n ≡ width
    sum-rooms = by (enough some)
      where
        by : HaveRoom needs glyphs cells n width → sum rooms + lines_of glyphs n ≡ width
        by (inl fits) =
            let least : sum (least_rooms one_column widths) ≡ sum (least_rooms one_column (own_widths cells n)) = ap (λ (xs : List ℕ). sum (least_rooms one_column xs)) are in
            let left : drawn_width after - width + sum (least_rooms one_column widths) ≤ sum widths = omega (arith, wider, total, least, fits) in
            omega (arith, rooms-enough priority needs (drawn_width after - width) widths rooms asked left, wider, total, least, fits)
        by (inr fits) =
            let needed : sum (needed_rooms needs widths) ≡ sum (needed_rooms needs (own_widths cells n)) = ap (λ (xs : List ℕ). sum (needed_rooms needs xs)) are in
            let left : drawn_width after - width + sum (needed_rooms needs widths) ≤ sum widths = omega (arith, wider, total, needed, fits) in
            let same : sum (kept_rooms needs (drawn_width after - width) widths) ≡ sum (needed_rooms needs widths) = ap sum (kept-needed needs (drawn_width after - width) widths left) in
            omega (arith, rooms-sum priority needs (drawn_width after - width) widths rooms asked, same, left, wider, total, needed, fits)

    rooms-many : length rooms ≡ n
    rooms-many = rooms-count priority needs (drawn_width after - width) widths rooms asked ∙ count

    rooms-two : (k : ℕ) → k < n → 2 ≤ get_or rooms k 0
    rooms-two k below =
        let inside : k < length widths = omega (arith, below, count) in
        let own : text_width (text_at cells (position_at 0 k)) + 2 ≤ own_width cells k = own_width-holds cells k 0 some in
        let wide : 2 ≤ get_or widths k 0 = omega (arith, own, at k below) in
        let kept : get_or (kept_rooms needs (drawn_width after - width) widths) k 0 ≤ get_or rooms k 0 = rooms-kept priority needs (drawn_width after - width) widths rooms asked k inside in
        omega (arith, kept, kept-two needs (drawn_width after - width) widths padded k inside wide)

    abbrev made : List (List (List ℕ))
    made = fitted_cells truncate widths rooms cells n even

    -- the table whose texts are fitted
    middle-framed : IsFramed glyphs made (with_fitted_texts truncate widths rooms after)
    middle-framed = record {
      borders = framed.borders;
      margin = framed.margin;
      padding = framed.padding;
      extent = framed.extent;
      sizes = refl;
      rows_are = ap (λ (found : List (List (List ℕ))). changed_rows (λ place. fitted truncate widths rooms place.col) EveryCell (column_count found) found) framed.rows_are;
    }

    last-framed : IsFramed glyphs made s
    last-framed = trimmed-framed glyphs made truncate widths rooms (with_fitted_texts truncate widths rooms after) s middle-framed leads

    made-even : AreEven n made
    made-even = still-even truncate widths rooms cells n even

    made-are : drawn_widths s ≡ own_widths made n
    made-are = widths-are glyphs made s last-framed n made-even (omega (arith, some, as-many truncate widths rooms cells n even))

    made-sum : sum (drawn_widths s) ≤ sum rooms
    made-sum =
        let same : sum (drawn_widths s) ≡ sum (map (own_width made) (range_with_len 0 (length rooms))) = ap sum made-are ∙ ap (λ (m : ℕ). sum (map (own_width made) (range_with_len 0 m))) (sym rooms-many) in
        let most : sum (map (own_width made) (range_with_len 0 (length rooms))) ≤ sum rooms =
        sum-most (own_width made) rooms 0
        (λ k inside.
        let below : k < n = omega (arith, inside, rooms-many) in
        let here : 0 + k ≡ k = omega arith in
        let within : own_width made k ≤ get_or rooms k 0 = column-within truncate widths rooms cells n even whole some k below (rooms-two k below) (at k below) in
        omega (arith, ap (own_width made) here, within)) in
        omega (arith, same, most)

    made-count : length (drawn_widths s) ≡ n
    made-count = ap (λ (xs : List ℕ). length xs) made-are ∙ length-map-range_with_len (own_width made) 0 n

    narrow-within : drawn_width s ≤ width
    narrow-within =
        let most = width-most glyphs made s last-framed in
        let lines : lines_of glyphs (length (drawn_widths s)) ≡ lines_of glyphs n = ap (lines_of glyphs) made-count in
        omega (arith, most, lines, made-sum, sum-rooms)

  pub fitted-table : FitsTexts truncate priority needs width after s → drawn_width s ≤ width
  fitted-table fits = by (nat_le (drawn_width after) width) refl fits
    where
      by : (b : Bool) → nat_le (drawn_width after) width ≡ b → MatchBool b (s ≡ after)
          ((rooms : List ℕ) × AreAsked truncate priority needs width after rooms × LeadsThrough (trims truncate (drawn_widths after) rooms) (with_fitted_texts truncate (drawn_widths after) rooms after) s) → drawn_width s ≤ width
      by true e same = let less : drawn_width after ≤ width = grind (arith, nat_tests, e) in omega (arith, ap (λ (t : State). drawn_width t) same, less)
      by false e (rooms, asked, leads) = narrow-within (grind (arith, nat_tests, e)) rooms asked leads

-- ---- the table of some rows

module _ (options : Options) (shown : RowsShown) (rows : List (List (List ℕ))) where
  abbrev pub table_cells : List (List (List ℕ))
  table_cells = filled (cells_in options shown rows)

  pub table-within : (n width : ℕ) → AreEven n table_cells → AreWholeTexts table_cells → narrowed_to options ≡ Some width → (0 < length table_cells → HaveRoom (needs_in options.header rows) (glyphs_of options.line_style) table_cells n width)
      → (s : State) → IsTable options shown rows s → drawn_width s ≤ width
  table-within n width even whole asked enough s (after, leads, made) =
      let header = header_of options.header rows in
      let framed = settings-framed options.line_style header (numeric_of options.header rows) options.alignments.items options.colors.items table_cells after leads in
      fitted-table options.truncate options.priority (needs_in options.header rows) (needs-padded options.header rows) width (glyphs_of options.line_style) table_cells n even whole after s framed enough
      (subst (λ (found : Option ℕ). MatchOption found (s ≡ after) (λ most. FitsTexts options.truncate options.priority (needs_in options.header rows) most after s)) asked made)
