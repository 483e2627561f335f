-- What the columns of a table take that are shown because they fit: no more than is requested.
use Rattle.std.proofs.Common.{◌≡◌, ◌&&◌, ◌||◌, ◌≤◌, ◌<◌, ◌+◌, ◌-◌, ◌*◌, ◌⊎◌, inl, inr, not, min, max, ℕ, zero, suc, Bool, true, false, List, [], ◌∷◌, ◌++◌, drop, length, map, replicate, sum, take, get_or, refl, ap, sym, subst, ◌∙◌, arith, if◌then◌else◌}
use Rattle.std.specs.List.{AllByRecursion, enumerate_from, filter, list_all, list_any, range_with_len}
use Rattle.std.proofs.lemmas.Bool.{cases_lt}
use Rattle.std.proofs.lemmas.List.{get_or-map, get_or_past, length-append, length-map, length-replicate}
use Rattle.std.proofs.lemmas.List.FromFn.{get_or-map-range_with_len, length-map-range_with_len, length-range_with_len}
use Rattle.std.proofs.lemmas.List.Sums.{sum_by-cons}
use Rattle.ansi_scan.specs.Pieces.{pieces}
use Rattle.ansi_scan.proofs.Existence.{ArePiecesOf-pieces}
use Rattle.ansi_str_search.specs.Text.StyledText.{strip}
use Rattle.ansi_str_search.proofs.TextLemmas.Stripping.{strip-without_escape}
use Rattle.grid_config_values.specs.Glyphs.{Between, BoundaryKind, First, Last, boundary_kind, has_column_boundary, no_borders}
use Rattle.grid_config_values.specs.declared.borders.Borders.{Borders as Glyphs}
use Rattle.grid_records_measure.specs.TextLines.{text_width}
use Rattle.papergrid_picture.specs.Frame.{thickness}
use Rattle.papergrid_picture.proofs.Related.{All-get_or}
use Rattle.papergrid_picture.proofs.Shown.{drop-map, pieces-nothing}
use Rattle.tabled_text.specs.Rows.{filled, filled_row, longest}
use Rattle.basinmug_columns.specs.Fitting.Fitting.{ellipsis}
use Rattle.basinmug_columns.specs.Needs.{need_of, needed_text, unpadded, widest_in, widest_number, without_blanks}
use Rattle.basinmug_columns.specs.Numbers.Columns.{cell, is_a_number, is_numeric, is_text, kind_of_cell}
use Rattle.basinmug_columns.specs.Rooms.{empty_column, least_rooms, need_at, needed_room, one_column}
use Rattle.basinmug_columns.specs.Shown.{cost_of, line_width, numbered}
use Rattle.basinmug_columns.specs.declared.rooms.Need.{Need}
use Rattle.basinmug_columns.specs.declared.rows.RowsShown.{RowsShown}
use Rattle.basinmug_columns.specs.declared.rows.RowsShown.TheVariants.{All as AllRows, Between as BetweenRows, Earlier, More}
use Rattle.basinmug_columns.specs.declared.shown.ShownColumn.{ShownColumn}
use Rattle.basinmug_columns.specs.declared.shown.ShownColumn.TheVariants.{LeftOut, Number}
use Rattle.program_options.specs.declared.basinmug.LineStyle.{LineStyle}
use Rattle.program_options.specs.declared.basinmug.LineStyle.TheVariants.{Ascii, Empty, Extended, Markdown, Modern, Rounded}
use Rattle.basinmug_run.specs.Columns.{is_lined, shown_field, shown_row, with_columns}
use Rattle.basinmug_run.specs.Picture.Pictures.{needs_in, numeric_of}
use Rattle.basinmug_run.specs.Picture.Rows.{header_of, header_rows, mark_row, marked_rows, records_of}
use Rattle.basinmug_run.specs.Picture.Settings.{glyphs_of}
use Rattle.columns_laws.proofs.BoundsLemmas.CellBounds.{nothing-measures}
use Rattle.basinmug_laws.proofs.WidthLemmas.FittedWidths.{dots-within}
use Rattle.basinmug_laws.proofs.WidthLemmas.FittingColumns.{Fit}
use Rattle.basinmug_laws.proofs.WidthLemmas.NarrowedWidths.{HaveRoom, least_width, needs-padded}
use Rattle.basinmug_laws.proofs.WidthLemmas.OwnWidths.{AreEven, lines_of, own_width, own_widths}

-- ---- boundaries

thickness-most : (b : Bool) → thickness b ≤ 1
thickness-most true = omega arith
thickness-most false = omega arith

filter-most : (p : ℕ → Bool) (xs : List ℕ) → length (filter p xs) ≤ length xs
filter-most p [] = omega arith
filter-most p (x ∷ xs) = by (p x) (filter-most p xs)
  where
    by : (b : Bool) → length (filter p xs) ≤ length xs → length (if b then x ∷ filter p xs else filter p xs) ≤ suc (length xs)
    by true rest = omega (arith, rest)
    by false rest = omega (arith, rest)

lines-most : (glyphs : Glyphs ℕ) (n : ℕ) → lines_of glyphs n ≤ 1 + n
lines-most glyphs n =
    omega (
      arith,
      filter-most (λ j. has_column_boundary glyphs (boundary_kind j n)) (range_with_len 0 n),
      length-range_with_len 0 n,
      thickness-most (has_column_boundary glyphs (boundary_kind n n)),
    )

none-there : (kind : BoundaryKind) → has_column_boundary {T = ℕ} no_borders kind ≡ false
none-there First = refl
none-there Between = refl
none-there Last = refl

filter-none : (p : ℕ → Bool) → ((x : ℕ) → p x ≡ false) → (xs : List ℕ) → length (filter p xs) ≡ 0
filter-none p none [] = refl
filter-none p none (x ∷ xs) = ap (λ (b : Bool). length (if b then x ∷ filter p xs else filter p xs)) (none x) ∙ filter-none p none xs

no-lines : (n : ℕ) → lines_of no_borders n ≡ 0
no-lines n =
    let inner : length (filter (λ j. has_column_boundary {T = ℕ} no_borders (boundary_kind j n)) (range_with_len 0 n)) ≡ 0 =
    filter-none (λ j. has_column_boundary {T = ℕ} no_borders (boundary_kind j n)) (λ j. none-there (boundary_kind j n)) (range_with_len 0 n) in
    let last : thickness (has_column_boundary {T = ℕ} no_borders (boundary_kind n n)) ≡ 0 = ap thickness (none-there (boundary_kind n n)) in
    omega (arith, inner, last)

style-lines : (line_style : LineStyle) (n : ℕ) → lines_of (glyphs_of line_style) n ≤ line_width (is_lined line_style) + n * line_width (is_lined line_style)
style-lines Ascii n = omega (arith, lines-most (glyphs_of Ascii) n)
style-lines Modern n = omega (arith, lines-most (glyphs_of Modern) n)
style-lines Rounded n = omega (arith, lines-most (glyphs_of Rounded) n)
style-lines Extended n = omega (arith, lines-most (glyphs_of Extended) n)
style-lines Markdown n = omega (arith, lines-most (glyphs_of Markdown) n)
style-lines Empty n = omega (arith, no-lines n)

-- ---- one column of text for each

three-sum : (own : ℕ → ℕ) (a n : ℕ) → sum (least_rooms one_column (map own (range_with_len a n))) ≤ n * 3
three-sum own a zero = omega arith
three-sum own a (suc n) =
    omega (arith, three-sum own (a + 1) n, sum_by-cons (λ x. x) (min (own a) 3) (least_rooms one_column (map own (range_with_len (a + 1) n))))

-- in any cells of as many columns, or of fewer
pub three-enough : (line_style : LineStyle) (cells : List (List (List ℕ))) (width n most : ℕ) → n ≤ most → line_width (is_lined line_style) + most * (3 + line_width (is_lined line_style)) ≤ width → least_width (glyphs_of line_style) cells n ≤ width
three-enough line_style cells width n most few = by (is_lined line_style) (style-lines line_style n)
  where
    by : (lined : Bool) → lines_of (glyphs_of line_style) n ≤ line_width lined + n * line_width lined → line_width lined + most * (3 + line_width lined) ≤ width → least_width (glyphs_of line_style) cells n ≤ width
    by true lines fits = omega (arith, few, lines, fits, three-sum (own_width cells) 0 n)
    by false lines fits = omega (arith, few, lines, fits, three-sum (own_width cells) 0 n)

-- ---- rows of columns

pub columns-even : (columns : List ShownColumn) (rows : List (List (List ℕ))) → AreEven (length columns) (with_columns columns rows)
columns-even columns [] = tt
columns-even columns (row ∷ rows) = (length-map columns (shown_field row), columns-even columns rows)

even-most : (n : ℕ) (rows : List (List (List ℕ))) → AreEven n rows → longest rows ≤ n
even-most n [] even = omega arith
even-most n (row ∷ rows) even = omega (arith, even.0, even-most n rows even.1)

pub columns-most : (columns : List ShownColumn) (rows : List (List (List ℕ))) → longest (with_columns columns rows) ≤ length columns
columns-most columns rows = even-most (length columns) (with_columns columns rows) (columns-even columns rows)

-- rows that are filled are even
filled-length : (n : ℕ) (row : List (List ℕ)) → length row ≤ n → length (filled_row n row) ≡ n
filled-length n row few =
    let none : List ℕ = [] in
    let both : length row + length (replicate (n - length row) none) ≡ n = omega (arith, few, length-replicate (n - length row) none) in
    length-append row (replicate (n - length row) none) ∙ both

filled-from : (n : ℕ) (rows : List (List (List ℕ))) → longest rows ≤ n → AreEven n (map (filled_row n) rows)
filled-from n [] few = tt
filled-from n (row ∷ rows) few = (filled-length n row (omega (arith, few)), filled-from n rows (omega (arith, few)))

pub are-even : (rows : List (List (List ℕ))) → AreEven (longest rows) (filled rows)
are-even rows = filled-from (longest rows) rows (omega arith)

-- a row of ellipses makes none longer
joined-most : (xs ys : List (List (List ℕ))) (most : ℕ) → longest xs ≤ most → longest ys ≤ most → longest (xs ++ ys) ≤ most
joined-most [] ys most first second = second
joined-most (x ∷ xs) ys most first second = omega (arith, first, joined-most xs ys most (omega (arith, first)) second)

take-most : (n : ℕ) (rows : List (List (List ℕ))) → longest (take n rows) ≤ longest rows
take-most zero rows = omega arith
take-most (suc n) [] = omega arith
take-most (suc n) (row ∷ rows) = omega (arith, take-most n rows)

drop-most : (n : ℕ) (rows : List (List (List ℕ))) → longest (drop n rows) ≤ longest rows
drop-most zero rows = omega arith
drop-most (suc n) [] = omega arith
drop-most (suc n) (row ∷ rows) = omega (arith, drop-most n rows)

pub marked-most : (header : Bool) (shown : RowsShown) (rows : List (List (List ℕ))) → longest (marked_rows header shown rows) ≤ longest rows
marked-most header AllRows rows = omega arith
marked-most header (More count) rows = omega arith
marked-most header (Earlier count) rows = omega arith
marked-most header (BetweenRows first count) rows =
    let place = first + header_rows header in
    joined-most (take place rows) (mark_row rows ∷ drop place rows) (longest rows) (take-most place rows)
    (omega (arith, length-replicate (longest rows) ellipsis, drop-most place rows))

-- ---- what columns need

needed-most : (numeric : Bool) (widest number : ℕ) → needed_text numeric widest number ≤ 24
needed-most true widest number = omega arith
needed-most false widest number = omega arith

-- no more than the widest line and the widest number
needed-within : (numeric : Bool) (widest number most : ℕ) → widest ≤ most → number ≤ most → needed_text numeric widest number ≤ most
needed-within true widest number most first second = omega (arith, first, second)
needed-within false widest number most first second = omega (arith, first)

most-of : (header : List (List ℕ)) (records : List (List (List ℕ))) (numeric : List Bool) (columns : List ℕ) → AllByRecursion (λ need. need.width ≤ 26) (map (need_of header records numeric) columns)
most-of header records numeric [] = tt
most-of header records numeric (column ∷ columns) = (
  omega (
    arith,
    needed-most (get_or numeric column false) (max (text_width (cell column header)) (widest_in column records)) (widest_number column records),
  ),
  most-of header records numeric columns,
)

line-most : (lined : Bool) → line_width lined ≤ 1
line-most true = omega arith
line-most false = omega arith

module _ (header : Bool) (rows : List (List (List ℕ))) where
  abbrev needs : List Need
  needs = needs_in header rows

  need-two : (number : ℕ) → 2 ≤ (need_at needs number).width
  need-two number = All-get_or (λ (need : Need). 2 ≤ need.width) needs number empty_column (needs-padded header rows) (omega arith)

  need-most : (number : ℕ) → (need_at needs number).width ≤ 26
  need-most number =
      let numeric = numeric_of header rows in
      All-get_or (λ (need : Need). need.width ≤ 26) needs number empty_column (most-of (header_of header rows) (records_of header rows) numeric (range_with_len 0 (length numeric))) (omega arith)

  -- a column that needs no more costs no more
  number-cost : (lined : Bool) (number width : ℕ) → width ≤ (need_at needs number).width → width + line_width lined ≤ cost_of needs lined (Number number)
  number-cost lined number width less = omega (arith, less, need-most number, line-most lined)

  -- the need of a column that rows have
  need-is : (number : ℕ) → number < longest rows → need_at needs number ≡ need_of (header_of header rows) (records_of header rows) (numeric_of header rows) number
  need-is number below =
      let numeric = numeric_of header rows in
      let many : length numeric ≡ longest rows = length-map-range_with_len (is_numeric (records_of header rows)) 0 (longest rows) in
      get_or-map-range_with_len (need_of (header_of header rows) (records_of header rows) numeric) 0 (length numeric) number number empty_column (omega (arith, below, many)) (omega arith)

  numeric-is : (number : ℕ) → number < longest rows → get_or (numeric_of header rows) number false ≡ is_numeric (records_of header rows) number
  numeric-is number below = get_or-map-range_with_len (is_numeric (records_of header rows)) 0 (longest rows) number number false below (omega arith)

  -- and of one that they do not have
  need-past : (number : ℕ) → longest rows ≤ number → need_at needs number ≡ empty_column
  need-past number past =
      let numeric = numeric_of header rows in
      let many : length numeric ≡ longest rows = length-map-range_with_len (is_numeric (records_of header rows)) 0 (longest rows) in
      let all : length needs ≡ length numeric = length-map-range_with_len (need_of (header_of header rows) (records_of header rows) numeric) 0 (length numeric) in
      get_or_past needs number empty_column (omega (arith, past, many, all))

-- all columns of rows
pub whole-cost : (header lined : Bool) (rows : List (List (List ℕ))) (k : ℕ) → k < length (numbered 0 (longest rows))
    → (need_at (needs_in header rows) k).width + line_width lined ≤ cost_of (needs_in header rows) lined (get_or (numbered 0 (longest rows)) k LeftOut)
whole-cost header lined rows k below =
    let many : length (numbered 0 (longest rows)) ≡ longest rows = length-map-range_with_len Number 0 (longest rows) in
    let is : get_or (numbered 0 (longest rows)) k LeftOut ≡ Number k = get_or-map-range_with_len Number 0 (longest rows) k k LeftOut (omega (arith, below, many)) (omega arith) in
    subst (λ (column : ShownColumn). (need_at (needs_in header rows) k).width + line_width lined ≤ cost_of (needs_in header rows) lined column) (sym is)
    (number-cost header rows lined k (need_at (needs_in header rows) k).width (omega arith))

-- ---- columns that no row has

cell-past : (number : ℕ) (row : List (List ℕ)) → length row ≤ number → cell number row ≡ []
cell-past number row past = get_or_past row number [] past

nothing-left : unpadded [] ≡ []
nothing-left = ap without_blanks (ap strip pieces-nothing)

widest-none : (number : ℕ) (rows : List (List (List ℕ))) → longest rows ≤ number → widest_in number rows ≡ 0
widest-none number [] past = refl
widest-none number (row ∷ rows) past =
    omega (arith, ap text_width (cell-past number row (omega (arith, past))), nothing-measures, widest-none number rows (omega (arith, past)))

number-none : (number : ℕ) (rows : List (List (List ℕ))) → longest rows ≤ number → widest_number number rows ≡ 0
number-none number [] past = refl
number-none number (row ∷ rows) past =
    let none : text_width (unpadded (cell number row)) ≡ 0 = ap (λ (text : List ℕ). text_width (unpadded text)) (cell-past number row (omega (arith, past))) ∙ ap text_width nothing-left ∙ nothing-measures in
    omega (arith, none, number-none number rows (omega (arith, past)))

header-past : (header : Bool) (number : ℕ) (rows : List (List (List ℕ))) → longest rows ≤ number → cell number (header_of header rows) ≡ []
header-past false number rows past = cell-past number [] (omega arith)
header-past true number [] past = cell-past number [] (omega arith)
header-past true number (row ∷ rows) past = cell-past number row (omega (arith, past))

-- ---- the ellipsis

dots-left : unpadded ellipsis ≡ ellipsis
dots-left = ap without_blanks (strip-without_escape ellipsis (pieces ellipsis) (ArePiecesOf-pieces ellipsis) refl)

number-dots : text_width (unpadded ellipsis) ≤ 1
number-dots = omega (arith, ap text_width dots-left, dots-within)

-- ---- columns as they are shown

module _ (columns : List ShownColumn) (k : ℕ) (below : k < length columns) where
  cell-shown : (row : List (List ℕ)) → cell k (shown_row columns row) ≡ shown_field row (get_or columns k LeftOut)
  cell-shown row = get_or-map (shown_field row) columns k LeftOut [] below

  records-same : (header : Bool) (rows : List (List (List ℕ))) → records_of header (with_columns columns rows) ≡ with_columns columns (records_of header rows)
  records-same header rows = drop-map (shown_row columns) (header_rows header) rows

  long : (row : List (List ℕ)) (rows : List (List (List ℕ))) → k < longest (with_columns columns (row ∷ rows))
  long row rows = omega (arith, below, length-map columns (shown_field row))

  -- one of the input
  module _ (number : ℕ) (is : get_or columns k LeftOut ≡ Number number) where
    same : (row : List (List ℕ)) → cell k (shown_row columns row) ≡ cell number row
    same row = cell-shown row ∙ ap (shown_field row) is

    widest-same : (rows : List (List (List ℕ))) → widest_in k (with_columns columns rows) ≡ widest_in number rows
    widest-same [] = refl
    widest-same (row ∷ rows) =
        ap (λ (text : List ℕ). max (text_width text) (widest_in k (with_columns columns rows))) (same row) ∙ ap (λ (n : ℕ). max (text_width (cell number row)) n) (widest-same rows)

    number-same : (rows : List (List (List ℕ))) → widest_number k (with_columns columns rows) ≡ widest_number number rows
    number-same [] = refl
    number-same (row ∷ rows) =
        ap (λ (text : List ℕ). max (text_width (unpadded text)) (widest_number k (with_columns columns rows))) (same row)
        ∙ ap (λ (n : ℕ). max (text_width (unpadded (cell number row))) n) (number-same rows)

    kind-same : (row : List (List ℕ)) → kind_of_cell k (shown_row columns row) ≡ kind_of_cell number row
    kind-same row = ap (λ (text : List ℕ). kind_of_cell 0 (text ∷ [])) (same row)

    all-same : (rows : List (List (List ℕ))) → list_all (λ row. not (is_text (kind_of_cell k row))) (with_columns columns rows) ≡ list_all (λ row. not (is_text (kind_of_cell number row))) rows
    all-same [] = refl
    all-same (row ∷ rows) =
        ap (λ kind. not (is_text kind) && list_all (λ row. not (is_text (kind_of_cell k row))) (with_columns columns rows)) (kind-same row)
        ∙ ap (λ (b : Bool). not (is_text (kind_of_cell number row)) && b) (all-same rows)

    any-same : (rows : List (List (List ℕ))) → list_any (λ row. is_a_number (kind_of_cell k row)) (with_columns columns rows) ≡ list_any (λ row. is_a_number (kind_of_cell number row)) rows
    any-same [] = refl
    any-same (row ∷ rows) =
        ap (λ kind. is_a_number kind || list_any (λ row. is_a_number (kind_of_cell k row)) (with_columns columns rows)) (kind-same row)
        ∙ ap (λ (b : Bool). is_a_number (kind_of_cell number row) || b) (any-same rows)

    numeric-same : (rows : List (List (List ℕ))) → is_numeric (with_columns columns rows) k ≡ is_numeric rows number
    numeric-same rows =
        ap (λ (b : Bool). b && list_any (λ row. is_a_number (kind_of_cell k row)) (with_columns columns rows)) (all-same rows)
        ∙ ap (λ (b : Bool). list_all (λ row. not (is_text (kind_of_cell number row))) rows && b) (any-same rows)

    header-same : (header : Bool) (rows : List (List (List ℕ))) → cell k (header_of header (with_columns columns rows)) ≡ cell number (header_of header rows)
    header-same false rows = cell-past k [] (omega arith) ∙ sym (cell-past number [] (omega arith))
    header-same true [] = cell-past k [] (omega arith) ∙ sym (cell-past number [] (omega arith))
    header-same true (row ∷ rows) = same row

    number-need : (header : Bool) (rows : List (List (List ℕ))) → (need_at (needs_in header (with_columns columns rows)) k).width ≤ (need_at (needs_in header rows) number).width
    number-need header [] =
        let none : (need_at (needs_in header []) k).width ≡ 2 = ap (λ (need : Need). need.width) (need-past header [] k (omega arith)) in
        omega (arith, none, need-two header [] number)
    number-need header (row ∷ rows) = by (cases_lt number (longest all))
      where
        all : List (List (List ℕ))
        all = row ∷ rows

        own : List (List (List ℕ))
        own = with_columns columns (row ∷ rows)

        width_at : Bool → ℕ → ℕ → ℕ
        width_at numeric widest found = needed_text numeric widest found + 2

        widest : max (text_width (cell k (header_of header own))) (widest_in k (records_of header own)) ≡ max (text_width (cell number (header_of header all))) (widest_in number (records_of header all))
        widest =
            ap (λ (text : List ℕ). max (text_width text) (widest_in k (records_of header own))) (header-same header all)
            ∙ ap (λ (n : ℕ). max (text_width (cell number (header_of header all))) n) (ap (widest_in k) (records-same header all) ∙ widest-same (records_of header all))

        found : widest_number k (records_of header own) ≡ widest_number number (records_of header all)
        found = ap (widest_number k) (records-same header all) ∙ number-same (records_of header all)

        mine : (need_at (needs_in header own) k).width ≡ width_at (get_or (numeric_of header own) k false) (max (text_width (cell number (header_of header all))) (widest_in number (records_of header all))) (widest_number number (records_of header all))
        mine =
            ap (λ (need : Need). need.width) (need-is header own k (long row rows))
            ∙ ap (λ (n : ℕ). width_at (get_or (numeric_of header own) k false) n (widest_number k (records_of header own))) widest
            ∙ ap (λ (n : ℕ). width_at (get_or (numeric_of header own) k false) (max (text_width (cell number (header_of header all))) (widest_in number (records_of header all))) n) found

        by : (number < longest all) ⊎ (longest all ≤ number) → (need_at (needs_in header own) k).width ≤ (need_at (needs_in header all) number).width
        by (inl inside) =
            let numeric : get_or (numeric_of header own) k false ≡ get_or (numeric_of header all) number false =
            numeric-is header own k (long row rows) ∙ ap (λ (found : List (List (List ℕ))). is_numeric found k) (records-same header all) ∙ numeric-same (records_of header all) ∙ sym (numeric-is header all number inside) in
            let equal : (need_at (needs_in header own) k).width ≡ (need_at (needs_in header all) number).width =
            mine ∙ ap (λ (b : Bool). width_at b (max (text_width (cell number (header_of header all))) (widest_in number (records_of header all))) (widest_number number (records_of header all))) numeric
            ∙ sym (ap (λ (need : Need). need.width) (need-is header all number inside)) in
            omega (arith, equal)
        by (inr past) =
            let head : text_width (cell number (header_of header all)) ≡ 0 = ap text_width (header-past header number all past) ∙ nothing-measures in
            let few : longest (records_of header all) ≤ number = omega (arith, past, drop-most (header_rows header) all) in
            let none = needed-within (get_or (numeric_of header own) k false) (max (text_width (cell number (header_of header all))) (widest_in number (records_of header all))) (widest_number number (records_of header all)) 0
            (omega (arith, head, widest-none number (records_of header all) few)) (omega (arith, number-none number (records_of header all) few)) in
            omega (arith, mine, none, need-two header all number)

  -- the one of ellipses
  module _ (is : get_or columns k LeftOut ≡ LeftOut) where
    dots-at : (row : List (List ℕ)) → cell k (shown_row columns row) ≡ ellipsis
    dots-at row = cell-shown row ∙ ap (shown_field row) is

    widest-dots : (rows : List (List (List ℕ))) → widest_in k (with_columns columns rows) ≤ 1
    widest-dots [] = omega arith
    widest-dots (row ∷ rows) = omega (arith, ap text_width (dots-at row), dots-within, widest-dots rows)

    numbers-dots : (rows : List (List (List ℕ))) → widest_number k (with_columns columns rows) ≤ 1
    numbers-dots [] = omega arith
    numbers-dots (row ∷ rows) = omega (arith, ap (λ (text : List ℕ). text_width (unpadded text)) (dots-at row), number-dots, numbers-dots rows)

    header-dots : (header : Bool) (rows : List (List (List ℕ))) → text_width (cell k (header_of header (with_columns columns rows))) ≤ 1
    header-dots false rows = omega (arith, ap text_width (cell-past k [] (omega arith)), nothing-measures)
    header-dots true [] = omega (arith, ap text_width (cell-past k [] (omega arith)), nothing-measures)
    header-dots true (row ∷ rows) = omega (arith, ap text_width (dots-at row), dots-within)

    dots-need : (header : Bool) (rows : List (List (List ℕ))) → (need_at (needs_in header (with_columns columns rows)) k).width ≤ 3
    dots-need header [] =
        let none : (need_at (needs_in header []) k).width ≡ 2 = ap (λ (need : Need). need.width) (need-past header [] k (omega arith)) in
        omega (arith, none)
    dots-need header (row ∷ rows) =
        let all = row ∷ rows in
        let own = with_columns columns all in
        let mine : (need_at (needs_in header own) k).width ≡ needed_text (get_or (numeric_of header own) k false) (max (text_width (cell k (header_of header own))) (widest_in k (records_of header own))) (widest_number k (records_of header own)) + 2 =
        ap (λ (need : Need). need.width) (need-is header own k (long row rows)) in
        let records = records-same header all in
        let widest : widest_in k (records_of header own) ≤ 1 = omega (arith, ap (widest_in k) records, widest-dots (records_of header all)) in
        let found : widest_number k (records_of header own) ≤ 1 = omega (arith, ap (widest_number k) records, numbers-dots (records_of header all)) in
        let most = needed-within (get_or (numeric_of header own) k false) (max (text_width (cell k (header_of header own))) (widest_in k (records_of header own))) (widest_number k (records_of header own)) 1
        (omega (arith, header-dots header all, widest)) found in
        omega (arith, mine, most)

  -- in the table of these columns none needs more than it costs
  pub own-cost : (header lined : Bool) (rows : List (List (List ℕ))) → (need_at (needs_in header (with_columns columns rows)) k).width + line_width lined ≤ cost_of (needs_in header rows) lined (get_or columns k LeftOut)
  own-cost header lined rows = by (get_or columns k LeftOut) refl
    where
      by : (column : ShownColumn) → get_or columns k LeftOut ≡ column → (need_at (needs_in header (with_columns columns rows)) k).width + line_width lined ≤ cost_of (needs_in header rows) lined column
      by (Number number) is = number-cost header rows lined number (need_at (needs_in header (with_columns columns rows)) k).width (number-need number is header rows)
      by LeftOut is = omega (arith, dots-need is header rows)

-- ---- sums

needed-sum : (needs : List Need) (line : ℕ) (cost : ShownColumn → ℕ) (widths : List ℕ) (columns : List ShownColumn) (a : ℕ) → length widths ≤ length columns
    → ((k : ℕ) → k < length columns → (need_at needs (a + k)).width + line ≤ cost (get_or columns k LeftOut))
    → length widths * line + sum (map (λ (placed : ℕ × ℕ). needed_room needs placed.0 placed.1) (enumerate_from a widths)) ≤ sum (map cost columns)
needed-sum needs line cost [] columns a few each = omega arith
needed-sum needs line cost (width ∷ widths) [] a few each = absurd (omega (arith, few))
needed-sum needs line cost (width ∷ widths) (column ∷ columns) a few each =
    let here : a + 0 ≡ a = omega arith in
    let first : (need_at needs (a + 0)).width + line ≤ cost column = each 0 (omega arith) in
    let at : (need_at needs (a + 0)).width ≡ (need_at needs a).width = ap (λ (n : ℕ). (need_at needs n).width) here in
    let rest : length widths * line + sum (map (λ (placed : ℕ × ℕ). needed_room needs placed.0 placed.1) (enumerate_from (a + 1) widths)) ≤ sum (map cost columns) =
    needed-sum needs line cost widths columns (a + 1) (omega (arith, few))
    (λ k below.
    let step : a + 1 + k ≡ a + suc k = omega arith in
    let next : (need_at needs (a + suc k)).width + line ≤ cost (get_or columns k LeftOut) = each (suc k) (omega (arith, below)) in
    omega (arith, ap (λ (n : ℕ). (need_at needs n).width) step, next)) in
    omega (
      arith,
      first,
      at,
      rest,
      sum_by-cons (λ x. x) (needed_room needs a width) (map (λ (placed : ℕ × ℕ). needed_room needs placed.0 placed.1) (enumerate_from (a + 1) widths)),
      sum_by-cons (λ x. x) (cost column) (map cost columns),
    )

-- cells of as many columns, or of fewer, fit a width that these columns fit
pub room-enough : (line_style : LineStyle) (header : Bool) (few : List (List (List ℕ))) (columns : List ShownColumn) (needs : List Need) (cells : List (List (List ℕ))) (width n : ℕ) → n ≤ length columns
    → ((k : ℕ) → k < length columns → (need_at needs k).width + line_width (is_lined line_style) ≤ cost_of (needs_in header few) (is_lined line_style) (get_or columns k LeftOut))
    → Fit (needs_in header few) (is_lined line_style) width columns → HaveRoom needs (glyphs_of line_style) cells n width
room-enough line_style header few columns needs cells width n less each (inl fits) =
    let lined = is_lined line_style in
    let many : length (own_widths cells n) ≡ n = length-map-range_with_len (own_width cells) 0 n in
    let sums =
    needed-sum needs (line_width lined) (cost_of (needs_in header few) lined) (own_widths cells n) columns 0 (omega (arith, many, less))
    (λ k below. let here : 0 + k ≡ k = omega arith in let each_here = each k below in omega (arith, ap (λ (m : ℕ). (need_at needs m).width) here, each_here)) in
    let lines : length (own_widths cells n) * line_width lined ≡ n * line_width lined = ap (λ (m : ℕ). m * line_width lined) many in
    inr (omega (arith, fits, style-lines line_style n, sums, lines))
room-enough line_style header few columns needs cells width n less each (inr fits) = inl (three-enough line_style cells width n (length columns) less fits)
