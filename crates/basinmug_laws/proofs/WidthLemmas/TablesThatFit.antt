-- The tables of records fit: no spans of them overlap, and no cell needs more columns than it has.
use Rattle.std.proofs.Common.{inl, inr, ◌⊎◌, ◌≡◌, ◌&&◌, ◌≤◌, ◌<◌, ◌+◌, nat_le, nat_lt, ℕ, zero, suc, Bool, true, false, List, [], ◌∷◌, Option, None, Some, Ok, Err, drop, get_or, length, map, sum, take, refl, ap, sym, subst, ◌∙◌, add-one, arith}
use Rattle.std.specs.Prelude.{IfSome, MatchBool, MatchOption, slice_get}
use Rattle.std.specs.List.{AllByRecursion, find, range_with_len}
use Rattle.std.proofs.lemmas.Bool.{cases_lt}
use Rattle.std.proofs.lemmas.Bool.Decides.{nat_tests}
use Rattle.std.proofs.lemmas.List.FromFn.{get_or-map-range_with_len, length-map-range_with_len}
use Rattle.grid_config.specs.Colors.{Color as CellColor}
use Rattle.grid_config_values.specs.Entities.{table_positions}
use Rattle.grid_config_values.specs.Order.{same_place}
use Rattle.grid_config_values.specs.Spans.Owners.{owner}
use Rattle.grid_config_values.specs.declared.borders.Borders.{Borders as Glyphs}
use Rattle.grid_config_values.specs.declared.entity.Entity.TheVariants.{Global as EveryCell}
use Rattle.grid_config_values.specs.declared.fault.Fault.{Fault}
use Rattle.grid_config_values.specs.declared.fault.Fault.TheVariants.{Memory, Range, Spans, Room}
use Rattle.grid_config_values.specs.declared.position.Position.{Position}
use Rattle.grid_config_values.specs.declared.sides.Indent.{Indent}
use Rattle.grid_config_values.specs.declared.sides.Sides.{Sides}
use Rattle.grid_config_values.specs.declared.spans.extent.Extent.{Extent}
use Rattle.grid_records_measure.specs.TextLines.{text_width}
use Rattle.grid_records_traits.specs.Rows.{text_at}
use Rattle.papergrid_picture.specs.Fitting.{first_too_wide, is_too_wide, need}
use Rattle.papergrid_picture.specs.Frame.{Frame, block_width, column_count as columns_of_frame, row_count, stretch}
use Rattle.papergrid_picture.specs.Picture.{at}
use Rattle.tabled.specs.Printing.{IsFitsAnswer, SpansAreGood, drawn_frame, drawn_widths}
use Rattle.tabled.specs.Totals.{drawn_width}
use Rattle.tabled_list.specs.Lists.{LeadsThrough}
use Rattle.tabled_list.specs.Settings.{setting_step}
use Rattle.tabled_list.specs.declared.setting.Setting.{Setting}
use Rattle.tabled_list.specs.declared.setting.Setting.TheVariants.{AlignHorizontal, Borders, Color, LineAlignment, TrimHorizontal}
use Rattle.tabled_steps.specs.Changes.{changed_rows}
use Rattle.tabled_steps.specs.Outcomes.{MayRefuseStep}
use Rattle.tabled_steps.specs.States.{Outcome, State, column_count, settled}
use Rattle.tabled_text.specs.Rows.{filled, longest}
use Rattle.columns_table.proofs.AskedWidths.{one-taken}
use Rattle.columns_table.proofs.First.{none-in_row-more, none-more}
use Rattle.basinmug_columns.specs.declared.rows.RowsShown.{RowsShown}
use Rattle.program_options.specs.declared.basinmug.ColumnName.{ColumnName}
use Rattle.basinmug_run.specs.declared.options.Options.{Options}
use Rattle.basinmug_run.specs.Picture.Fitting.{fitted, trims, with_fitted_texts}
use Rattle.basinmug_run.specs.Picture.Narrowing.{AreAsked, FitsTexts, IsNotNarrowed, IsRefusedIn}
use Rattle.basinmug_run.specs.Picture.Pictures.{HasNoTable, IsTable, asked_settings, cells_in, narrowed_to, needs_in, numeric_of}
use Rattle.basinmug_run.specs.Picture.Rows.{header_of}
use Rattle.basinmug_run.specs.Picture.Settings.{glyphs_of}
use Rattle.basinmug_laws.proofs.ShownLemmas.OwnLooks.{IsOwn, settings-own, style-glyphs, trims-own}
use Rattle.basinmug_laws.proofs.WidthLemmas.FramedTables.{IsFramed, settings-framed, trimmed-framed}
use Rattle.basinmug_laws.proofs.WidthLemmas.NarrowedWidths.{fitted_cells, still-even}
use Rattle.basinmug_laws.proofs.WidthLemmas.OwnWidths.{AreEven, own_width, own_width-holds, own_widths, rows-drawn, widths-are}
use Rattle.basinmug_laws.proofs.WidthLemmas.ShownColumns.{are-even}

and-false : (b : Bool) → (b && false) ≡ false
and-false true = refl
and-false false = refl

-- ---- a framed table

module _ (glyphs : Glyphs ℕ) (rows : List (List (List ℕ))) (s : State) (framed : IsFramed glyphs rows s) (n : ℕ) (even : AreEven n rows) where
  -- each of its cells is single
  good-spans : SpansAreGood s.look.extent (length s.rows) (column_count s.rows)
  good-spans =
      subst (λ (extent : Position → Extent). SpansAreGood extent (length s.rows) (column_count s.rows)) (sym framed.extent)
      (record { inside = λ anchor several here. absurd (several refl); apart = λ a b place several others one two first second. absurd (several refl) })

  abbrev frame : Frame
  frame = drawn_frame s

  abbrev test : Position → Bool
  test = is_too_wide frame s.rows

  module _ (i : ℕ) (in_rows : i < length rows) where
    widths : drawn_widths s ≡ own_widths rows n
    widths = widths-are glyphs rows s framed n even (omega (arith, in_rows))

    many : length (drawn_widths s) ≡ n
    many = ap (λ (xs : List ℕ). length xs) widths ∙ length-map-range_with_len (own_width rows) 0 n

    module _ (j : ℕ) (in_columns : j < n) where
      -- it has the width of its column
      wide : block_width frame (at i j) ≡ own_width rows j
      wide =
          let one : (s.look.extent (at i j)).columns ≡ 1 = ap (λ (extent : Position → Extent). (extent (at i j)).columns) framed.extent in
          let block : block_width frame (at i j) ≡ stretch frame.columns j 1 = ap (stretch frame.columns j) one in
          let here : stretch frame.columns j 1 ≡ sum (take 1 (drop j (drawn_widths s))) = omega arith in
          let width : get_or (drawn_widths s) j 0 ≡ own_width rows j =
          ap (λ (xs : List ℕ). get_or xs j 0) widths ∙ get_or-map-range_with_len (own_width rows) 0 n j j 0 in_columns (omega arith) in
          block ∙ here ∙ one-taken (drawn_widths s) j (omega (arith, in_columns, many)) ∙ width

      -- and needs its text and two paddings
      needs : need s.look s.rows (at i j) ≡ text_width (text_at rows (at i j)) + 2
      needs =
          let padded : ℕ → ℕ = λ width. width + (s.look.padding (at i j)).left.size + (s.look.padding (at i j)).right.size in
          let left : (s.look.padding (at i j)).left.size ≡ 1 = ap (λ (padding : Position → Sides Indent). (padding (at i j)).left.size) framed.padding in
          let right : (s.look.padding (at i j)).right.size ≡ 1 = ap (λ (padding : Position → Sides Indent). (padding (at i j)).right.size) framed.padding in
          let both : padded (text_width (text_at rows (at i j))) ≡ text_width (text_at rows (at i j)) + 2 = omega (arith, left, right) in
          ap (λ (found : List (List (List ℕ))). padded (text_width (text_at found (at i j)))) framed.rows_are ∙ both

      has-room : test (at i j) ≡ false
      has-room =
          let enough : need s.look s.rows (at i j) ≤ block_width frame (at i j) = omega (arith, needs, wide, own_width-holds rows j i in_rows) in
          let within : nat_lt (block_width frame (at i j)) (need s.look s.rows (at i j)) ≡ false = grind (arith, nat_tests, enough) in
          ap (λ (b : Bool). same_place (owner s.look.extent (at i j)) (at i j) && b) within ∙ and-false (same_place (owner s.look.extent (at i j)) (at i j))

    none-in_row : (m : ℕ) → m ≤ n → find test (map (at i) (range_with_len 0 m)) ≡ None
    none-in_row zero less = refl
    none-in_row (suc m) less =
        ap (λ k. find test (map (at i) (range_with_len 0 k))) (sym (add-one m)) ∙ none-in_row-more test i m (none-in_row m (omega (arith, less))) (has-room m (omega (arith, less)))

  none-in_rows : (k : ℕ) → k ≤ length rows → find test (table_positions k n) ≡ None
  none-in_rows zero less = refl
  none-in_rows (suc k) less =
      ap (λ m. find test (table_positions m n)) (sym (add-one k)) ∙ none-more test n k (none-in_rows k (omega (arith, less))) (none-in_row k (omega (arith, less)) n (omega arith))

  none-wide : first_too_wide frame s.rows ≡ None
  none-wide = elim (cases_lt 0 (length rows)) [
    | inl some ↦
        ap (λ m. find test (table_positions m (columns_of_frame frame))) (rows-drawn glyphs rows s framed)
        ∙ ap (λ m. find test (table_positions (length rows) m)) (many 0 some) ∙ none-in_rows (length rows) (omega arith)
    | inr empty ↦
        let no_rows : row_count frame ≡ 0 = omega (arith, rows-drawn glyphs rows s framed, empty) in
        ap (λ m. find test (table_positions m (columns_of_frame frame))) no_rows
  ]

  framed-range : (fault : Fault) → IsFitsAnswer s (Err fault) → fault ≡ Range
  framed-range Spans answer = absurd (answer good-spans)
  framed-range Range answer = refl
  framed-range (Room row column) answer = absurd (let wrong : None ≡ Some (at row column) = sym none-wide ∙ answer.2 in cc wrong)
  framed-range Memory answer = absurd answer

-- ---- settings that are not refused

abbrev AnyGlyph : ℕ → Type 0
AnyGlyph c = Unit {0}

abbrev AnyColor : CellColor → Type 0
AnyColor color = Unit {0}

abbrev Own : Setting → Type 0
Own = IsOwn AnyGlyph AnyColor

not-refused : (next : State) (fault : Fault) (changed : Outcome) → Ok next ≡ changed → settled (Some EveryCell) changed ≡ Err fault → ⊥
not-refused next fault changed is refused = let wrong : settled (Some EveryCell) (Ok next) ≡ Err fault = ap (settled (Some EveryCell)) is ∙ refused in cc wrong

own-goes-on : (setting : Setting) → Own setting → (s : State) (fault : Fault) → setting_step setting s (Err fault) → ⊥
own-goes-on (AlignHorizontal place value) own s fault step = not-refused _ fault step.0 step.1 step.2
own-goes-on (LineAlignment place on) own s fault step = not-refused _ fault step.0 step.1 step.2
own-goes-on (TrimHorizontal place on) own s fault step = not-refused _ fault step.0 step.1 step.2
own-goes-on (Borders value) own s fault step = not-refused _ fault step.0 step.1 step.2
own-goes-on (Color place color) own s fault step = not-refused _ fault step.0 step.1 step.2
own-goes-on setting own s fault step = absurd own

own-memory : (setting : Setting) → Own setting → (s : State) (fault : Fault) → MayRefuseStep fault (setting_step setting s) → fault ≡ Memory
own-memory setting own s Memory refused = refl
own-memory setting own s Range refused = absurd (own-goes-on setting own s Range refused)
own-memory setting own s Spans refused = absurd (own-goes-on setting own s Spans refused)
own-memory setting own s (Room row column) refused = absurd (own-goes-on setting own s (Room row column) refused)

one-memory : (settings : List Setting) (index : ℕ) → index < length settings → AllByRecursion Own settings → (s : State) (fault : Fault)
    → IfSome (slice_get settings index) (λ setting. MayRefuseStep fault (setting_step setting s)) → fault ≡ Memory
one-memory [] index inside own s fault refused = absurd (omega (arith, inside))
one-memory (setting ∷ settings) zero inside own s fault refused = own-memory setting own.0 s fault refused
one-memory (setting ∷ settings) (suc index) inside own s fault refused = one-memory settings index (omega (arith, inside)) own.1 s fault refused

all-memory : (settings : List Setting) → AllByRecursion Own settings → (old : State) (fault : Fault) → IsRefusedIn settings old fault → fault ≡ Memory
all-memory settings own old fault (s, index, refused) = one-memory settings index refused.inside own s fault refused.refused

any-colors : (pairs : List (ColumnName × CellColor)) → AllByRecursion (λ (pair : ColumnName × CellColor). AnyColor pair.1) pairs
any-colors [] = tt
any-colors (pair ∷ pairs) = (tt, any-colors pairs)

-- ---- the table of records

-- it is framed, and its rows have as many cells
abbrev IsEven : Glyphs ℕ → State → Type 0
IsEven glyphs s = (rows : List (List (List ℕ))) × (n : ℕ) × IsFramed glyphs rows s × AreEven n rows

module _ (options : Options) (shown : RowsShown) (rows : List (List (List ℕ))) where
  abbrev header : List (List ℕ)
  header = header_of options.header rows

  abbrev cells : List (List (List ℕ))
  cells = filled (cells_in options shown rows)

  abbrev glyphs : Glyphs ℕ
  glyphs = glyphs_of options.line_style

  settings-are-own : AllByRecursion Own (asked_settings options rows)
  settings-are-own =
      settings-own AnyGlyph AnyColor options.line_style header (numeric_of options.header rows) options.alignments.items options.colors.items
      (style-glyphs AnyGlyph (record { hyphen = tt; plus = tt; bar = tt; drawing = λ c least most. tt }) options.line_style) (any-colors options.colors.items)

  abbrev even : AreEven (longest (cells_in options shown rows)) cells
  even = are-even (cells_in options shown rows)

  module _ (after s : State) (framed : IsFramed glyphs cells after) where
    narrowed-even : (width : ℕ) → FitsTexts options.truncate options.priority (needs_in options.header rows) width after s → IsEven glyphs s
    narrowed-even width fits = by (nat_le (drawn_width after) width) fits
      where
        by : (b : Bool) → MatchBool b (s ≡ after)
            ((rooms : List ℕ) × AreAsked options.truncate options.priority (needs_in options.header rows) width after rooms
            × LeadsThrough (trims options.truncate (drawn_widths after) rooms) (with_fitted_texts options.truncate (drawn_widths after) rooms after) s) → IsEven glyphs s
        by true same = subst (IsEven glyphs) (sym same) (cells, longest (cells_in options shown rows), framed, even)
        by false (rooms, asked, leads) =
            let n = longest (cells_in options shown rows) in
            let made = fitted_cells options.truncate (drawn_widths after) rooms cells n even in
            let middle : IsFramed glyphs made (with_fitted_texts options.truncate (drawn_widths after) rooms after) =
            record {
              borders = framed.borders;
              margin = framed.margin;
              padding = framed.padding;
              extent = framed.extent;
              sizes = refl;
              rows_are =
                  ap (λ (found : List (List (List ℕ))). changed_rows (λ place. fitted options.truncate (drawn_widths after) rooms place.col) EveryCell (column_count found) found) framed.rows_are;
            } in (
              made,
              n,
              trimmed-framed glyphs made options.truncate (drawn_widths after) rooms (with_fitted_texts options.truncate (drawn_widths after) rooms after) s middle leads,
              still-even options.truncate (drawn_widths after) rooms cells n even,
            )

    made-even : (asked : Option ℕ) → MatchOption asked (s ≡ after) (λ width. FitsTexts options.truncate options.priority (needs_in options.header rows) width after s) → IsEven glyphs s
    made-even None same = subst (IsEven glyphs) (sym same) (cells, longest (cells_in options shown rows), framed, even)
    made-even (Some width) fits = narrowed-even width fits

  table-even : (s : State) → IsTable options shown rows s → IsEven glyphs s
  table-even s (after, leads, made) =
      made-even after s (settings-framed options.line_style header (numeric_of options.header rows) options.alignments.items options.colors.items cells after leads) (narrowed_to options) made

  -- it is refused only because its totals are out of range
  pub table-range : (s : State) → IsTable options shown rows s → (fault : Fault) → IsFitsAnswer s (Err fault) → fault ≡ Range
  table-range s made fault answer = let found = table-even s made in framed-range glyphs found.0 s found.2 found.1 found.3 fault answer

  -- and is not made only for that, or for memory
  not-narrowed : (after : State) (fault : Fault) (asked : Option ℕ)
      → MatchOption asked ⊥ (λ width. IsNotNarrowed options.truncate options.priority (needs_in options.header rows) width after fault) → (fault ≡ Range) ⊎ (fault ≡ Memory)
  not-narrowed after fault None refused = absurd refused
  not-narrowed after fault (Some width) (inl total) = inl total.0
  not-narrowed after fault (Some width) (inr (rooms, asked, refused)) =
      inr (all-memory (trims options.truncate (drawn_widths after) rooms) (trims-own AnyGlyph AnyColor options.truncate (drawn_widths after) rooms)
      (with_fitted_texts options.truncate (drawn_widths after) rooms after) fault refused)

  pub not-made : (fault : Fault) → HasNoTable options shown rows fault → (fault ≡ Range) ⊎ (fault ≡ Memory)
  not-made fault (inl refused) = inr (all-memory (asked_settings options rows) settings-are-own _ fault refused)
  not-made fault (inr (after, leads, refused)) = not-narrowed after fault (narrowed_to options) refused
