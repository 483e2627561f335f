-- What a table prints, by what is read ahead of its rows.
use Rattle.std.proofs.Common.{◌≡◌, ◌<◌, ◌≤◌, ◌+◌, ◌⊎◌, ◌||◌, ◌==◌, inl, inr, ℕ, zero, suc, Bool, true, false, List, [], ◌∷◌, Option, None, Some, Result, Ok, Err, IfErr, IfOk, OnOk, if◌then◌else◌, flat_map, length, map, slice_index_or, take, vec_items, Vec, ap, sym, subst, refl, ◌∙◌, arith}
use Rattle.std.proofs.Math.Path.{fun_ext}
use Rattle.std.proofs.lemmas.List.{length-map, take-map}
use Rattle.std.proofs.lemmas.List.FromFn.{length-map-range_with_len}
use Rattle.std.specs.List.{find, range_with_len}
use Rattle.grid_config.specs.Looks.{Look, compact_look}
use Rattle.grid_config.specs.Colors.{Color}
use Rattle.grid_config_values.specs.declared.fault.Fault.{Fault}
use Rattle.grid_config_values.specs.declared.fault.Fault.TheVariants.{Memory, Range as PassesMax}
use Rattle.grid_config_values.specs.declared.position.Position.{Position}
use Rattle.grid_config_values.specs.declared.sides.Indent.{Indent}
use Rattle.grid_config_values.specs.declared.sides.Sides.{Sides}
use Rattle.grid_records.specs.RecordRows.Truncating.{truncated_row, truncated_rows}
use Rattle.grid_records_traits.specs.Rows.{evened, evened_row}
use Rattle.grid_records_traits.specs.Sources.{texts_of_rows}
use Rattle.papergrid.specs.Grids.{grid_text}
use Rattle.papergrid_picture.specs.Fitting.{FitsAnswer, InRange, is_too_wide, table_width}
use Rattle.papergrid_picture.specs.Frame.{Frame, frame_of, line_count, row_count, track_at}
use Rattle.papergrid_picture.specs.Tables.{sizes_of, table_lines, table_text}
use Rattle.tabled_compact.specs.Tables.{first_or_all, no_colors}
use Rattle.tabled_size.specs.Dimension.Sizes.{GivenSizes, given_size}
use Rattle.tabled_compact.specs.Columns.{column_width}
use Rattle.tabled_compact.specs.Iter.Content.{heights_or, row_height, widths_or}
use Rattle.tabled_compact.specs.Iter.Drawing.{IsDrawn}
use Rattle.tabled_compact.specs.Iter.Padded.{AreGreater, PassesRange, listed_count}
use Rattle.tabled_compact.specs.Iter.Tables.{IsFitsAnswer, Streamed, content_heights, content_widths, frame, height_at, printed, shown_rows, sniffed, stream_columns, width_at}
use Rattle.tabled_compact.proofs.IterLemmas.Shapes.{high_passes, kept-map, one_passes, wide_passes}

-- ---- rows that are read ahead

pub take-take : {X : Type 0} (few many : ℕ) (xs : List X) → few ≤ many → take few (take many xs) ≡ take few xs
take-take zero many xs le = refl
take-take (suc few) zero xs le = absurd (omega (arith, le))
take-take (suc few) (suc many) [] le = refl
take-take (suc few) (suc many) (x ∷ xs) le = ap (λ ys. x ∷ ys) (take-take few many xs (omega (arith, le)))

-- the texts of the first rows of which the first are read
pub sniffed-are : {T Z : Type 0} (text : T → List ℕ) (slice front : List (Vec T Z)) (few many : ℕ) (rows : List (List (List ℕ))) →
    texts_of_rows text slice ≡ take many rows → front ≡ take few slice → few ≤ many → texts_of_rows text front ≡ take few rows
sniffed-are text slice front few many rows read is le =
    ap (texts_of_rows text) is ∙ sym (take-map _ few slice) ∙ ap (take few) read ∙ take-take few many rows le

-- as many of them are kept
pub kept-counted : {T Z : Type 0} (text : T → List ℕ) (slice : List (Vec T Z)) (kept : Option ℕ) (many : ℕ) (rows : List (List (List ℕ))) →
    texts_of_rows text slice ≡ take many rows → length (first_or_all kept slice) ≡ length (first_or_all kept (take many rows))
kept-counted text slice kept many rows read =
    sym (length-map (first_or_all kept slice) _) ∙ ap length (sym (kept-map (λ row. map text (vec_items row)) kept slice))
    ∙ ap (λ (texts : List (List (List ℕ))). length (first_or_all kept texts)) read

-- where none of the first rows is kept, none is
pub none_kept : {X : Type 0} (kept : Option ℕ) (many : ℕ) (xs : List X) → 0 < many → length (first_or_all kept (take many xs)) ≡ 0 → first_or_all kept xs ≡ []
none_kept None many [] some none = refl
none_kept None zero (x ∷ xs) some none = absurd (omega (arith, some))
none_kept None (suc many) (x ∷ xs) some none = absurd (omega (arith, none))
none_kept (Some zero) many xs some none = refl
none_kept (Some (suc count)) many [] some none = refl
none_kept (Some (suc count)) zero (x ∷ xs) some none = absurd (omega (arith, some))
none_kept (Some (suc count)) (suc many) (x ∷ xs) some none = absurd (omega (arith, none))

shorter : {X : Type 0} (count few : ℕ) (xs : List X) → length (take count (take few xs)) ≤ length (take count xs)
shorter zero few xs = omega arith
shorter (suc count) zero xs = omega arith
shorter (suc count) (suc few) [] = omega arith
shorter (suc count) (suc few) (x ∷ xs) = let less = shorter count few xs in omega (arith, less)

all_shorter : {X : Type 0} (few : ℕ) (xs : List X) → length (take few xs) ≤ length xs
all_shorter zero xs = omega arith
all_shorter (suc few) [] = omega arith
all_shorter (suc few) (x ∷ xs) = let less = all_shorter few xs in omega (arith, less)

fewer : {X : Type 0} (kept : Option ℕ) (few : ℕ) (xs : List X) → length (first_or_all kept (take few xs)) ≤ length (first_or_all kept xs)
fewer None few xs = all_shorter few xs
fewer (Some count) few xs = shorter count few xs

-- some are kept where some of the first are
pub some_kept : {X : Type 0} (kept : Option ℕ) (few : ℕ) (xs : List X) (n : ℕ) → n ≡ length (first_or_all kept (take few xs)) → 0 < n → 0 < length (first_or_all kept xs)
some_kept kept few xs n is some = omega (arith, is, some, fewer kept few xs)

-- ---- sizes after those of a list

behind : (xs : List ℕ) (k size : ℕ) → length xs ≤ k → slice_index_or xs k size ≡ size
behind [] zero size le = refl
behind [] (suc k) size le = refl
behind (x ∷ xs) zero size le = absurd (omega (arith, le))
behind (x ∷ xs) (suc k) size le = behind xs k size (omega (arith, le))

widths_listed : (width : Option ℕ) (columns : ℕ) (texts : List (List (List ℕ))) → listed_count (widths_or width columns texts) ≤ columns
widths_listed (Some width) columns texts = omega arith
widths_listed None columns texts = omega (arith, length-map-range_with_len (column_width texts) 0 columns)

widths_least : (width : Option ℕ) (columns : ℕ) (texts : List (List (List ℕ))) → given_size (widths_or width columns texts) columns ≤ given_size (widths_or width columns texts) 0
widths_least (Some width) columns texts = omega arith
widths_least None columns texts =
    let none : given_size (widths_or None columns texts) columns ≡ 0 = behind (map (column_width texts) (range_with_len 0 columns)) columns 0 (omega (arith, length-map-range_with_len (column_width texts) 0 columns)) in omega (arith, none)

heights_listed : (height width : Option ℕ) (columns count : ℕ) (texts : List (List (List ℕ))) → length texts ≤ count → listed_count (heights_or height width columns texts) ≤ count
heights_listed (Some height) width columns count texts few = omega arith
heights_listed None (Some width) columns count texts few = omega arith
heights_listed None None columns count texts few = omega (arith, few, length-map texts (row_height columns))

heights_least : (height width : Option ℕ) (columns count : ℕ) (texts : List (List (List ℕ))) → length texts ≤ count → given_size (heights_or height width columns texts) count ≤ given_size (heights_or height width columns texts) 0
heights_least (Some height) width columns count texts few = omega arith
heights_least None (Some width) columns count texts few = omega arith
heights_least None None columns count [] few = let one : given_size (heights_or None None columns []) count ≡ 1 = behind [] count 1 few in omega (arith, one)
heights_least None None columns count (text ∷ texts) few =
    let one : given_size (heights_or None None columns (text ∷ texts)) count ≡ 1 = behind (map (row_height columns) (text ∷ texts)) count 1 (omega (arith, few, length-map (text ∷ texts) (row_height columns))) in omega (arith, one)

-- ---- nothing is printed without columns or rows

module _ (look : Look) (width height : ℕ → ℕ) (colors : Position → Option Color) where
  no_lines : (b : Bool) (n : ℕ) → (if b then 0 else if true then 0 else n) ≡ 0
  no_lines true n = refl
  no_lines false n = refl

  no_cells : (xs : List ℕ) → flat_map (λ (x : ℕ). let none : List Position = [] in none) xs ≡ []
  no_cells [] = refl
  no_cells (x ∷ xs) = no_cells xs

  no_width : (b : Bool) (n : ℕ) → (if b || true then 0 else n) ≡ 0
  no_width true n = refl
  no_width false n = refl

  without_columns : (rows : List (List (List ℕ))) (columns : ℕ) → columns ≡ 0 →
      (table_text look rows colors (sizes_of width columns) (sizes_of height (length rows)) ≡ []) × FitsAnswer (frame_of look (sizes_of width columns) (sizes_of height (length rows))) rows (Unit {0}) (Ok tt)
  without_columns rows columns none =
      subst (λ (n : ℕ). (table_text look rows colors (sizes_of width n) (sizes_of height (length rows)) ≡ []) × FitsAnswer (frame_of look (sizes_of width n) (sizes_of height (length rows))) rows (Unit {0}) (Ok tt)) (sym none)
      (let heights : List ℕ = sizes_of height (length rows) in
      let drawn : Frame = frame_of look [] heights in
      let lines : line_count drawn ≡ 0 = no_lines (length heights == 0) (track_at drawn.rows (length heights) + look.margin.bottom.size) in
      let wide : table_width drawn ≡ 0 = no_width (length heights == 0) (track_at drawn.columns 0 + look.margin.right.size) in (
        ap (table_lines look rows colors [] (sizes_of height (length rows))) lines,
        (tt, (omega (arith, wide), omega (arith, lines)), ap (find (is_too_wide drawn rows)) (no_cells (range_with_len 0 (row_count drawn)))),
      ))

  without_rows : (rows : List (List (List ℕ))) (columns : ℕ) → rows ≡ [] →
      (table_text look rows colors (sizes_of width columns) (sizes_of height (length rows)) ≡ []) × FitsAnswer (frame_of look (sizes_of width columns) (sizes_of height (length rows))) rows (Unit {0}) (Ok tt)
  without_rows rows columns none =
      subst (λ (rows : List (List (List ℕ))). (table_text look rows colors (sizes_of width columns) (sizes_of height (length rows)) ≡ []) × FitsAnswer (frame_of look (sizes_of width columns) (sizes_of height (length rows))) rows (Unit {0}) (Ok tt)) (sym none)
      (refl, (tt, (omega arith, omega arith), refl))

pub nothing_printed : (table : Streamed) → (stream_columns table ≡ 0) ⊎ (first_or_all table.kept table.rows ≡ []) → (printed table ≡ []) × IsFitsAnswer table (Ok tt)
nothing_printed table (inl none) = without_columns (compact_look table.settings) (width_at table) (height_at table) no_colors (shown_rows table) (stream_columns table) none
nothing_printed table (inr none) =
    without_rows (compact_look table.settings) (width_at table) (height_at table) no_colors (shown_rows table) (stream_columns table)
    (ap (λ (rows : List (List (List ℕ))). evened (stream_columns table) (truncated_rows (given_size (content_widths table)) rows)) none)

-- ---- a size that passes the range

rows-counted : (table : Streamed) → length (shown_rows table) ≡ length (first_or_all table.kept table.rows)
rows-counted table =
    length-map (truncated_rows (given_size (content_widths table)) (first_or_all table.kept table.rows)) (evened_row (stream_columns table))
    ∙ length-map (first_or_all table.kept table.rows) (truncated_row (given_size (content_widths table)) 0)

pub refused_unfit : (table : Streamed) (fault : Fault) → 0 < stream_columns table → 0 < length (first_or_all table.kept table.rows) →
    (fault ≡ Memory) ⊎ ((fault ≡ PassesMax) × (PassesRange (table.settings.padding.left.size + table.settings.padding.right.size) (content_widths table)
    ⊎ PassesRange (table.settings.padding.top.size + table.settings.padding.bottom.size) (content_heights table))) → (fault ≡ Memory) ⊎ IsFitsAnswer table (Err fault)
refused_unfit table fault some_columns some_kept (inl memory) = inl memory
refused_unfit table fault some_columns some_kept (inr range) =
    let columns : ℕ = stream_columns table in
    let rows : ℕ = length (shown_rows table) in
    let some_rows : 0 < rows = omega (arith, rows-counted table, some_kept) in
    let few : length (first_or_all table.kept (sniffed table)) ≤ rows = omega (arith, rows-counted table, fewer table.kept table.sniff table.rows) in
    let look : Look = compact_look table.settings in
    let unfit : ¬ (InRange (frame table)) = elim range.1 as (λ _. ¬ (InRange (frame table))) [
      | inl wide ↦
          let one = one_passes (content_widths table) _ columns some_columns (widths_listed table.width columns (sniffed table)) (widths_least table.width columns (sniffed table)) wide in
          wide_passes look (width_at table) (height_at table) columns rows some_columns some_rows one.0 one.1 one.2
      | inr high ↦
          let one = one_passes (content_heights table) _ rows some_rows (heights_listed table.height table.width columns rows (first_or_all table.kept (sniffed table)) few) (heights_least table.height table.width columns rows (first_or_all table.kept (sniffed table)) few) high in
          high_passes look (width_at table) (height_at table) columns rows some_columns some_rows one.0 one.1 one.2
    ] in
    inr (subst (λ (fault : Fault). IsFitsAnswer table (Err fault)) (sym range.0) (tt, unfit))

-- ---- what is drawn, by other names of the same

module _ (table : Streamed) (columns : ℕ) (content wide high : GivenSizes) (source : List (List (List ℕ))) (same_columns : columns ≡ stream_columns table) (same_content : content ≡ content_widths table) (same_source : source ≡ table.rows)
    (wide_is : AreGreater (table.settings.padding.left.size + table.settings.padding.right.size) (content_widths table) wide)
    (high_is : AreGreater (table.settings.padding.top.size + table.settings.padding.bottom.size) (content_heights table) high) where
  widths-are : given_size wide ≡ width_at table
  widths-are = fun_ext wide_is

  heights-are : given_size high ≡ height_at table
  heights-are = fun_ext high_is

  abbrev shown_by : ℕ → GivenSizes → List (List (List ℕ)) → List (List (List ℕ))
  shown_by n sizes rows = evened n (truncated_rows (given_size sizes) (first_or_all table.kept rows))

  shown-are : shown_by columns content source ≡ shown_rows table
  shown-are =
      ap (λ (n : ℕ). shown_by n content source) same_columns ∙ ap (λ (sizes : GivenSizes). shown_by (stream_columns table) sizes source) same_content
      ∙ ap (λ (rows : List (List (List ℕ))). shown_by (stream_columns table) (content_widths table) rows) same_source

  abbrev text_by : (ℕ → ℕ) → (ℕ → ℕ) → ℕ → List (List (List ℕ)) → List ℕ
  text_by width height n rows = grid_text (compact_look table.settings) width height no_colors n rows

  pub text-is : text_by (given_size wide) (given_size high) columns (shown_by columns content source) ≡ printed table
  text-is =
      ap (λ (width : ℕ → ℕ). text_by width (given_size high) columns (shown_by columns content source)) widths-are
      ∙ ap (λ (height : ℕ → ℕ). text_by (width_at table) height columns (shown_by columns content source)) heights-are
      ∙ ap (λ (n : ℕ). text_by (width_at table) (height_at table) n (shown_by columns content source)) same_columns
      ∙ ap (λ (rows : List (List (List ℕ))). text_by (width_at table) (height_at table) (stream_columns table) rows) shown-are

  abbrev answer_by : (ℕ → ℕ) → (ℕ → ℕ) → ℕ → List (List (List ℕ)) → Result (Unit {0}) Fault → Type 0
  answer_by width height n rows answer = FitsAnswer (frame_of (compact_look table.settings) (sizes_of width n) (sizes_of height (length rows))) rows (Unit {0}) answer

  pub answer-is : (answer : Result (Unit {0}) Fault) → IsDrawn (compact_look table.settings) (wide, high) columns (shown_by columns content source) answer → IsFitsAnswer table answer
  answer-is answer drawn =
      subst (λ (rows : List (List (List ℕ))). answer_by (width_at table) (height_at table) (stream_columns table) rows answer) shown-are
      (subst (λ (n : ℕ). answer_by (width_at table) (height_at table) n (shown_by columns content source) answer) same_columns
      (subst (λ (height : ℕ → ℕ). answer_by (width_at table) height columns (shown_by columns content source) answer) heights-are
      (subst (λ (width : ℕ → ℕ). answer_by width (given_size high) columns (shown_by columns content source) answer) widths-are drawn)))

-- ---- what a call knows, by its own names

module _ (table : Streamed) (padding : Sides Indent) (columns : ℕ) (texts : List (List (List ℕ))) (same_padding : padding ≡ table.settings.padding) (same_columns : columns ≡ stream_columns table) (same_texts : texts ≡ sniffed table) where
  widths-same : widths_or table.width columns texts ≡ content_widths table
  widths-same = ap (λ (n : ℕ). widths_or table.width n texts) same_columns ∙ ap (widths_or table.width (stream_columns table)) same_texts

  heights-same : heights_or table.height table.width columns (first_or_all table.kept texts) ≡ content_heights table
  heights-same =
      ap (λ (n : ℕ). heights_or table.height table.width n (first_or_all table.kept texts)) same_columns
      ∙ ap (λ (texts : List (List (List ℕ))). heights_or table.height table.width (stream_columns table) (first_or_all table.kept texts)) same_texts

  abbrev Told : Fault → Sides Indent → GivenSizes → GivenSizes → Type 0
  Told fault padding widths heights = (fault ≡ Memory) ⊎ ((fault ≡ PassesMax) × (PassesRange (padding.left.size + padding.right.size) widths ⊎ PassesRange (padding.top.size + padding.bottom.size) heights))

  pub refused_here : (fault : Fault) → 0 < columns → 0 < length (first_or_all table.kept table.rows) →
      Told fault padding (widths_or table.width columns texts) (heights_or table.height table.width columns (first_or_all table.kept texts)) → (fault ≡ Memory) ⊎ IsFitsAnswer table (Err fault)
  refused_here fault some_columns some_rows told =
      refused_unfit table fault (subst (λ (n : ℕ). 0 < n) same_columns some_columns) some_rows
      (subst (λ (padding : Sides Indent). Told fault padding (content_widths table) (content_heights table)) same_padding
      (subst (λ (heights : GivenSizes). Told fault padding (content_widths table) heights) heights-same
      (subst (λ (widths : GivenSizes). Told fault padding widths (heights_or table.height table.width columns (first_or_all table.kept texts))) widths-same told)))

  module _ (content wide high : GivenSizes) (source : List (List (List ℕ))) (same_source : source ≡ table.rows) (content_is : content ≡ widths_or table.width columns texts)
      (wide_is : AreGreater (padding.left.size + padding.right.size) (widths_or table.width columns texts) wide)
      (high_is : AreGreater (padding.top.size + padding.bottom.size) (heights_or table.height table.width columns (first_or_all table.kept texts)) high) where
    wide_here : AreGreater (table.settings.padding.left.size + table.settings.padding.right.size) (content_widths table) wide
    wide_here =
        subst (λ (padding : Sides Indent). AreGreater (padding.left.size + padding.right.size) (content_widths table) wide) same_padding
        (subst (λ (widths : GivenSizes). AreGreater (padding.left.size + padding.right.size) widths wide) widths-same wide_is)

    high_here : AreGreater (table.settings.padding.top.size + table.settings.padding.bottom.size) (content_heights table) high
    high_here =
        subst (λ (padding : Sides Indent). AreGreater (padding.top.size + padding.bottom.size) (content_heights table) high) same_padding
        (subst (λ (heights : GivenSizes). AreGreater (padding.top.size + padding.bottom.size) heights high) heights-same high_is)

    abbrev shown_here : List (List (List ℕ))
    shown_here = evened columns (truncated_rows (given_size content) (first_or_all table.kept source))

    pub text_here : grid_text (compact_look table.settings) (given_size wide) (given_size high) no_colors columns shown_here ≡ printed table
    text_here = text-is table columns content wide high source same_columns (content_is ∙ widths-same) same_source wide_here high_here

    answer_here : (answer : Result (Unit {0}) Fault) → IsDrawn (compact_look table.settings) (wide, high) columns shown_here answer → IsFitsAnswer table answer
    answer_here answer drawn = answer-is table columns content wide high source same_columns (content_is ∙ widths-same) same_source wide_here high_here answer drawn

    pub fits_here : (result : Result (Unit {0}) Fault) → IfOk result (λ done. IsDrawn (compact_look table.settings) (wide, high) columns shown_here (Ok done)) → OnOk result (IsFitsAnswer table (Ok tt))
    fits_here (Ok done) drawn = answer_here (Ok done) drawn
    fits_here (Err fault) drawn = tt

    pub fault_here : (result : Result (Unit {0}) Fault) → IfErr result (λ fault. (fault ≡ Memory) ⊎ IsDrawn (compact_look table.settings) (wide, high) columns shown_here (Err fault)) → IfErr result (λ fault. (fault ≡ Memory) ⊎ IsFitsAnswer table (Err fault))
    fault_here (Ok done) told = tt
    fault_here (Err fault) told = elim told as (λ _. (fault ≡ Memory) ⊎ IsFitsAnswer table (Err fault)) [
      | inl memory ↦ inl memory
      | inr drawn ↦ inr (answer_here (Err fault) drawn)
    ]
