-- What a run prints in a width is no wider than requested.
use Rattle.std.proofs.Common.{◌≡◌, ◌≤◌, ◌<◌, ◌+◌, ◌*◌, inr, ℕ, Bool, true, false, All, List, [], ◌∷◌, ◌++◌, Option, None, Some, Ok, Err, get_or, length, map, refl, ap, sym, subst, ◌∙◌, arith, if◌then◌else◌}
use Rattle.std.specs.Prelude.{◌==◌, IfOk, MatchBool, Result, codes}
use Rattle.std.specs.Io.KnownBytes.{Appends}
use Rattle.std.specs.List.{AllByRecursion, count_by}
use Rattle.std.proofs.lemmas.Bool.{and_parts}
use Rattle.std.proofs.lemmas.Bool.Decides.{nat_tests}
use Rattle.std.proofs.lemmas.List.Elements.{All-weaker}
use Rattle.std.proofs.lemmas.List.FromFn.{length-map-range_with_len}
use Rattle.ansi_str_search.specs.Text.Characters.{shown_chars}
use Rattle.grid_records_measure.specs.Measures.{measure}
use Rattle.papergrid.specs.LineKind.{LineKind}
use Rattle.papergrid_picture.specs.Shown.{AreWholeTexts, IsWholeText}
use Rattle.tabled.specs.Printing.{IsFitsAnswer}
use Rattle.tabled.specs.Totals.{drawn_line, drawn_width}
use Rattle.tabled_steps.specs.States.{State}
use Rattle.tabled_text.specs.Rows.{filled, longest}
use Rattle.tables_laws.specs.Characters.AdditiveCharacters.{is_additive}
use Rattle.tables_laws.specs.Grids.TextsOf.{AreAdditiveTexts, IsTextOf}
use Rattle.tables_laws.specs.Shown.ShownTables.{chosen_numbers}
use Rattle.tables_laws.proofs.GridsLemmas.Texts.{nothing-of}
use Rattle.basinmug_columns.specs.Markdown.Documents.{with_header}
use Rattle.basinmug_columns.specs.Markdown.Escapes.{in_markdown}
use Rattle.basinmug_columns.specs.Rows.{rows_line}
use Rattle.basinmug_columns.specs.Rooms.{need_at}
use Rattle.basinmug_columns.specs.Shown.{cost_of, line_width, mark_cost, numbered}
use Rattle.basinmug_columns.specs.declared.rows.RowsShown.{RowsShown}
use Rattle.basinmug_columns.specs.declared.shown.ShownColumn.{ShownColumn}
use Rattle.basinmug_columns.specs.declared.shown.ShownColumn.TheVariants.{LeftOut, Number}
use Rattle.basinmug_input.specs.Rows.{rows_in}
use Rattle.basinmug_run.specs.declared.fault.RunFault.{RunFault}
use Rattle.basinmug_run.specs.declared.options.ColumnsShown.{ColumnsShown}
use Rattle.basinmug_run.specs.declared.options.Options.{Options}
use Rattle.basinmug_run.specs.declared.picture.printing.Printed.{Printed}
use Rattle.basinmug_run.specs.Columns.{AreOfColumns, are_none, column_counts, columns_in, columns_of_table, fitting_in, fitting_of, is_lined, is_of_input, shows_whole_rows, table_columns, wanted_columns, with_columns}
use Rattle.basinmug_run.specs.Kept.{Kept, kept_of}
use Rattle.basinmug_run.specs.Picture.Lines.{columns_line}
use Rattle.basinmug_run.specs.Picture.Pictures.{IsTable, cells_in, is_wider, narrowed_to, needs_in}
use Rattle.basinmug_run.specs.Picture.Printed.{PrintsShown}
use Rattle.basinmug_run.specs.Picture.Rows.{is_markdown, marked_rows}
use Rattle.basinmug_run.specs.Picture.Settings.{glyphs_of}
use Rattle.basinmug_run.specs.Runs.{PrintsAsTable, PrintsColumns, PrintsKept, PrintsRecords, table_rows}
use Rattle.basinmug_laws.specs.Shown.ClosingOptions.{HaveClosingColors}
use Rattle.basinmug_laws.specs.Shown.EndedLines.{ended_lines}
use Rattle.basinmug_laws.specs.Shown.RunsShown.{IsRunOf}
use Rattle.basinmug_laws.specs.Widths.Requested.{AreLinesWithin, IsRequested}
use Rattle.basinmug_laws.proofs.AdditiveLemmas.EvenPrints.{printed}
use Rattle.basinmug_laws.proofs.AdditiveLemmas.EvenTables.{ascii-additive, lines-even}
use Rattle.basinmug_laws.proofs.AdditiveLemmas.RowsOf.{ellipsis-of}
use Rattle.basinmug_laws.proofs.ShownLemmas.ChosenColumns.{columns-of, own-closes, whole-none}
use Rattle.basinmug_laws.proofs.ShownLemmas.FittedTexts.{ellipsis-whole}
use Rattle.basinmug_laws.proofs.ShownLemmas.KeptRows.{shown-all}
use Rattle.basinmug_laws.proofs.ShownLemmas.Tables.{cells-whole, filled-whole}
use Rattle.basinmug_laws.proofs.ShownLemmas.WholeTexts.{rows-cleaned, whole-nothing}
use Rattle.basinmug_laws.proofs.WidthLemmas.FittingColumns.{Fit, all-shown, that-fit}
use Rattle.basinmug_laws.proofs.WidthLemmas.NarrowedWidths.{HaveRoom, table-within, table_cells}
use Rattle.basinmug_laws.proofs.WidthLemmas.OwnWidths.{AreEven}
use Rattle.basinmug_laws.proofs.WidthLemmas.ShownColumns.{are-even, columns-most, marked-most, own-cost, room-enough, whole-cost}

abbrev Fits : Options → ℕ → List (List (List ℕ)) → List ShownColumn → Type 0
Fits options width few columns = Fit (needs_in options.header few) (is_lined options.line_style) width columns

-- ---- one table

-- a table of rows of columns that fit, none of which needs more than it costs
module _ (options : Options) (width : ℕ) (own : Options) (shown : RowsShown) (rows few : List (List (List ℕ))) (columns : List ShownColumn) (style : own.line_style ≡ options.line_style) (box : is_markdown own.line_style ≡ false)
    (asked : narrowed_to own ≡ Some width) (most : longest rows ≤ length columns) (whole : AreWholeTexts rows) (fits : Fits options width few columns)
    (each : (k : ℕ) → k < length columns → (need_at (needs_in own.header rows) k).width + line_width (is_lined options.line_style) ≤ cost_of (needs_in options.header few) (is_lined options.line_style) (get_or columns k LeftOut)) where
  abbrev marked : List (List (List ℕ))
  marked = marked_rows own.header shown rows

  cells-are : table_cells own shown rows ≡ filled marked
  cells-are = ap (λ (b : Bool). filled (if b then with_header own.header (map (map in_markdown) marked) else marked)) box

  enough : HaveRoom (needs_in own.header rows) (glyphs_of own.line_style) (table_cells own shown rows) (longest marked) width
  enough =
      subst (λ line_style. HaveRoom (needs_in own.header rows) (glyphs_of line_style) (table_cells own shown rows) (longest marked) width) (sym style)
      (room-enough options.line_style options.header few columns (needs_in own.header rows) (table_cells own shown rows) width (longest marked) (omega (arith, marked-most own.header shown rows, most)) each fits)

  one-within : (s : State) → IsTable own shown rows s → drawn_width s ≤ width
  one-within =
      table-within own shown rows (longest marked) width
      (subst (AreEven (longest marked)) (sym cells-are) (are-even marked))
      (filled-whole (cells_in own shown rows) (cells-whole own.line_style own.header shown rows whole)) asked (λ some. enough)

not-wider : (asked : Option ℕ) (width : ℕ) (s : State) → asked ≡ Some width → drawn_width s ≤ width → is_wider asked s ≡ false
not-wider asked width s same within = ap (λ (found : Option ℕ). is_wider found s) same ∙ grind (arith, nat_tests, within)

-- ---- all columns, in any width that has one column of text for each

all-many : (rows : List (List (List ℕ))) → length (numbered 0 (longest rows)) ≡ longest rows
all-many rows = length-map-range_with_len Number 0 (longest rows)

module _ (options : Options) (shown : RowsShown) (rows : List (List (List ℕ))) (width : ℕ) (asked : narrowed_to options ≡ Some width) (whole : AreWholeTexts rows)
    (enough : line_width (is_lined options.line_style) + longest rows * mark_cost (is_lined options.line_style) ≤ width) where
  no-document : (b : Bool) (given : Option ℕ) → (if b then None else given) ≡ Some width → (b ≡ false) × (given ≡ Some width)
  no-document true given same = absurd (cc same)
  no-document false given same = (refl, same)

  each-three : Fits options width rows (numbered 0 (longest rows))
  each-three = inr (subst (λ (n : ℕ). line_width (is_lined options.line_style) + n * (3 + line_width (is_lined options.line_style)) ≤ width) (sym (all-many rows)) enough)

  pub all-within : (counts : Option (ℕ × ℕ)) (wider : Bool) (old new : Option (List ℕ)) → PrintsShown options shown rows counts wider old new → wider ≡ false
  all-within counts wider old new prints =
      let s = prints.1.0 in
      let all = numbered 0 (longest rows) in
      let box = no-document (is_markdown options.line_style) options.width asked in
      prints.1.3
      ∙ not-wider options.width width s box.1
      (one-within options width options shown rows rows all refl box.0 asked (omega (arith, all-many rows)) whole each-three (whole-cost options.header (is_lined options.line_style) rows) s prints.1.1)

-- ---- columns that fit

module _ (options : Options) (width : ℕ) (is : IsRequested options width) where
  narrowed : (own : Options) → own.line_style ≡ options.line_style → own.width ≡ options.width → narrowed_to own ≡ Some width
  narrowed own style same =
      ap (λ line_style. if is_markdown line_style then None else own.width) style
      ∙ ap (λ (b : Bool). if b then None else own.width) is.no_document ∙ same ∙ is.width_is

  box-of : (own : Options) → own.line_style ≡ options.line_style → is_markdown own.line_style ≡ false
  box-of own style = ap is_markdown style ∙ is.no_document

  -- the columns of a table are those that fit
  fitting-is : (few : List (List (List ℕ))) (columns : List ShownColumn) → fitting_of options few (fitting_in options.columns_shown (narrowed_to options)) columns ≡ fitting_of options few (Some width) columns
  fitting-is few columns =
      ap (λ (shown : ColumnsShown). fitting_of options few (fitting_in shown (narrowed_to options)) columns) is.fitting
      ∙ ap (λ (asked : Option ℕ). fitting_of options few asked columns) (narrowed options refl refl)

  module _ (kept : Kept) where
    abbrev few : List (List (List ℕ))
    few = kept.rows

    abbrev columns : List ShownColumn
    columns = table_columns options few

    columns-fit : Fits options width few columns
    columns-fit =
        subst (Fits options width few) (sym (fitting-is few (wanted_columns options few (columns_in options few))))
        (that-fit (needs_in options.header few) (is_lined options.line_style) width is.enough (wanted_columns options few (columns_in options few)))

    -- ---- all columns

    abbrev all : List ShownColumn
    all = numbered 0 (longest few)

    wanted-all : (chosen : List ShownColumn) → are_none options.columns.items ≡ true → wanted_columns options few chosen ≡ all
    wanted-all chosen none = ap (λ (b : Bool). if b then all else chosen) none

    table-all : (chosen : List ShownColumn) → are_none options.columns.items ≡ true → columns_of_table options few chosen ≡ fitting_of options few (Some width) all
    table-all chosen none = fitting-is few (wanted_columns options few chosen) ∙ ap (fitting_of options few (Some width)) (wanted-all chosen none)

    -- where whole rows are shown, the table has them all
    shown-all-columns : shows_whole_rows options few ≡ true → columns ≡ all
    shown-all-columns shows =
        let none = whole-none options few shows in
        let counted : (count_by is_of_input (columns_of_table options few []) == length (wanted_columns options few [])) ≡ true =
        (and_parts (are_none options.columns.items) (count_by is_of_input (columns_of_table options few []) == length (wanted_columns options few [])) shows).1 in
        let same : count_by is_of_input (columns_of_table options few []) ≡ length (wanted_columns options few []) = grind (arith, nat_tests, counted) in
        table-all (columns_in options few) none
        ∙ all-shown (needs_in options.header few) (is_lined options.line_style) width is.enough all
        (sym (ap (λ (found : List ShownColumn). count_by is_of_input found) (table-all [] none)) ∙ same ∙ ap (λ (found : List ShownColumn). length found) (wanted-all [] none))

    whole-within : AreWholeTexts few → shows_whole_rows options few ≡ true → (s : State) → IsTable options kept.shown few s → drawn_width s ≤ width
    whole-within whole shows =
        let same = shown-all-columns shows in
        one-within options width options kept.shown few few all refl is.no_document (narrowed options refl refl) (omega (arith, all-many few)) whole
        (subst (Fits options width few) same columns-fit) (whole-cost options.header (is_lined options.line_style) few)

    -- ---- those that the table has

    own-within : (own : Options) → AreOfColumns options few columns own → AreWholeTexts few → (s : State) → IsTable own kept.shown (table_rows options kept) s → drawn_width s ≤ width
    own-within own are whole =
        one-within options width own kept.shown (table_rows options kept) few columns are.line_style (box-of own are.line_style) (narrowed own are.line_style are.width)
        (columns-most columns few) (columns-of IsWholeText whole-nothing ellipsis-whole columns few whole) columns-fit
        (λ k below.
        subst (λ (header : Bool). (need_at (needs_in header (with_columns columns few)) k).width + line_width (is_lined options.line_style) ≤ cost_of (needs_in options.header few) (is_lined options.line_style) (get_or columns k LeftOut)) (sym are.header)
        (own-cost columns k below options.header (is_lined options.line_style) few))

    -- ---- what is printed

    module _ (whole : AreWholeTexts few) (wider : Bool) (old new : Option (List ℕ)) where
      as-table : (b : Bool) → shows_whole_rows options few ≡ b → MatchBool b (PrintsShown options kept.shown few None wider old new) (PrintsColumns options kept wider old new) → wider ≡ false
      as-table true shows prints = let s = prints.1.0 in prints.1.3 ∙ not-wider options.width width s is.width_is (whole-within whole shows s prints.1.1)
      as-table false shows prints =
          let own = prints.1.0 in
          let are = prints.1.1 in
          let s = prints.1.2.1.0 in
          prints.1.2.1.3 ∙ not-wider own.width width s (are.width ∙ is.width_is) (own-within own are whole s prints.1.2.1.1)

      either : (b : Bool) → MatchBool b (PrintsRecords options kept wider old new) (PrintsAsTable options kept wider old new) → wider ≡ false
      either true prints = prints.1.0
      either false prints = as-table (shows_whole_rows options few) refl prints

      pub kept-within : PrintsKept options kept wider old new → wider ≡ false
      kept-within prints = either options.expanded prints

    -- ---- its lines

    abbrev Lines : Option (List ℕ) → Option (List ℕ) → Type 0
    Lines old new =
        (counts : Option (ℕ × ℕ)) × (lines : List (List ℕ)) × AreLinesWithin width lines
        × Appends old new (ended_lines lines ++ (columns_line options.line_style counts ++ rows_line (codes "row") kept.shown))

    abbrev IsWithin : List ℕ → Type 0
    IsWithin line = measure (shown_chars line) ≤ width

    -- each chosen line of a table that is no wider
    each-within : (own : Options) (rows : List (List (List ℕ))) → HaveClosingColors own → AreAdditiveTexts rows → (s : State) (chooses : LineKind → Bool) → IsTable own kept.shown rows s → IsFitsAnswer s (Ok tt) → drawn_width s ≤ width
        → All IsWithin (map (drawn_line s) (chosen_numbers s chooses))
    each-within own rows closing texts s chooses made fits within =
        All-weaker (λ (line : List ℕ). measure (shown_chars line) ≡ drawn_width s) IsWithin (λ line even. omega (arith, even, within)) (map (drawn_line s) (chosen_numbers s chooses))
        (lines-even own kept.shown rows closing texts s chooses made fits)

    whole-row : (row : List (List ℕ)) → AllByRecursion (IsTextOf is_additive) row → AllByRecursion IsWholeText row
    whole-row [] each = tt
    whole-row (text ∷ row) each = (each.0.whole, whole-row row each.1)

    whole-rows : (texts : List (List (List ℕ))) → AreAdditiveTexts texts → AreWholeTexts texts
    whole-rows [] each = tt
    whole-rows (row ∷ texts) each = (whole-row row each.0, whole-rows texts each.1)

    module _ (closing : HaveClosingColors options) (texts : AreAdditiveTexts few) (wider : Bool) (old new : Option (List ℕ)) where
      whole-lines : shows_whole_rows options few ≡ true → PrintsShown options kept.shown few None wider old new → Lines old new
      whole-lines shows prints =
          let made = printed options kept.shown few None closing is_additive texts (λ found line. IsWithin line)
          (λ s chooses is_table fits. each-within options few closing texts s chooses is_table fits (whole-within (whole-rows few texts) shows s is_table)) wider old new is.no_document prints in
          (None, made.lines, record { within = made.even; closed = made.closed }, made.appends)

      own-lines : PrintsColumns options kept wider old new → Lines old new
      own-lines prints =
          let own = prints.1.0 in
          let are = prints.1.1 in
          let chosen = table_rows options kept in
          let counts : Option (ℕ × ℕ) = Some (column_counts options few) in
          let closes = own-closes options own few columns closing are in
          let chosen_texts : AreAdditiveTexts chosen = columns-of (IsTextOf is_additive) (nothing-of is_additive) (ellipsis-of is_additive ascii-additive refl refl) columns few texts in
          let made = printed own kept.shown chosen counts closes is_additive chosen_texts (λ found line. IsWithin line)
          (λ s chooses is_table fits. each-within own chosen closes chosen_texts s chooses is_table fits (own-within own are (whole-rows few texts) s is_table)) wider old new (box-of own are.line_style) prints.1.2 in (
            counts,
            made.lines,
            record { within = made.even; closed = made.closed },
            subst (λ line_style. Appends old new (ended_lines made.lines ++ (columns_line line_style counts ++ rows_line (codes "row") kept.shown))) are.line_style made.appends,
          )

      table-lines : (b : Bool) → shows_whole_rows options few ≡ b → MatchBool b (PrintsShown options kept.shown few None wider old new) (PrintsColumns options kept wider old new) → Lines old new
      table-lines true shows prints = whole-lines shows prints
      table-lines false shows prints = own-lines prints

      pub lines-within : options.expanded ≡ false → PrintsKept options kept wider old new → Lines old new
      lines-within table prints =
          table-lines (shows_whole_rows options few) refl
          (subst (λ (b : Bool). MatchBool b (PrintsRecords options kept wider old new) (PrintsAsTable options kept wider old new)) table prints)

-- ---- a run of a text

pub run-within : (delimiter : ℕ) (bytes : List ℕ) (options : Options) (width : ℕ) (result : Result Printed RunFault) (before after : Option (List ℕ)) → IsRequested options width
    → IsRunOf delimiter bytes options result before after → IfOk result (λ printed. printed.wider ≡ false)
run-within delimiter bytes options width (Ok printed) before after is run =
    let rows = rows_in options.escapes delimiter bytes in
    kept-within options width is (kept_of options rows) (shown-all IsWholeText options rows (rows-cleaned options.escapes delimiter bytes run.readable)) printed.wider before after run.printed
run-within delimiter bytes options width (Err fault) before after is run = tt
