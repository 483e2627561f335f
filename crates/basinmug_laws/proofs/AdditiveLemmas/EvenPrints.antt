-- What is printed of additive records in a box: lines that measure as many columns, and what is below.
use Rattle.basinmug_run.specs.Picture.Pictures.{IsTable, cells_in}
use Rattle.tabled.specs.Printing.{IsFitsAnswer}
use Rattle.papergrid.specs.LineKind.{LineKind}
use Rattle.grid_records_measure.specs.Measures.{line_cost, measure}
use Rattle.ansi_str.specs.Characters.{shown_chars}
use Rattle.std.proofs.Common.{◌≡◌, ◌&&◌, nat_lt, ℕ, Bool, false, List, [], ◌∷◌, ◌++◌, Option, length, map, ap, refl, subst, ◌∙◌, if◌then◌else◌, All, Ok}
use Rattle.std.specs.Prelude.{codes, flat_map}
use Rattle.std.specs.List.{AllByRecursion}
use Rattle.std.specs.Io.KnownBytes.{Appends}
use Rattle.std.proofs.lemmas.List.Elements.{All-from_recursion}
use Rattle.ansi_str.specs.Lines.{IsClosedLine}
use Rattle.tables_laws.specs.Characters.AdditiveCharacters.{is_additive, is_spacing}
use Rattle.tables_laws.specs.Grids.TextsOf.{AreAdditiveTexts, IsTextOf, AreTextsOf}
use Rattle.papergrid_picture.specs.Shown.{AreWholeTexts, IsWholeText}
use Rattle.papergrid_picture.proofs.Items.{All-keeps}
use Rattle.tabled.specs.Totals.{drawn_line, drawn_width}
use Rattle.tabled.specs.Writing.{chosen_lines}
use Rattle.tabled_steps.specs.States.{State}
use Rattle.basinmug_columns.specs.Rows.{left_out_of, rows_line}
use Rattle.basinmug_columns.specs.declared.rows.RowsShown.{RowsShown}
use Rattle.basinmug_run.specs.declared.options.Options.{Options}
use Rattle.basinmug_run.specs.Picture.Documents.{document_text}
use Rattle.basinmug_run.specs.Picture.Lines.{below, columns_line, is_chosen}
use Rattle.basinmug_run.specs.Picture.Printed.{PrintsShown, text_of}
use Rattle.basinmug_run.specs.Picture.Rows.{is_markdown}
use Rattle.tables_laws.specs.Shown.ShownTables.{chosen_numbers}
use Rattle.tables_laws.proofs.ShownLemmas.ChosenLines.{chosen-ended, ended}
use Rattle.tables_laws.proofs.ShownLemmas.LineEnds.{line-closed}
use Rattle.basinmug_laws.specs.Shown.ClosingOptions.{HaveClosingColors}
use Rattle.basinmug_laws.specs.Shown.EndedLines.{ended_lines, AreEvenLines}
use Rattle.basinmug_laws.proofs.ShownLemmas.Tables.{IsShown, own-closing, table-shown}
use Rattle.basinmug_laws.specs.Additive.MeasuredLines.{AreMeasuredLines}
use Rattle.basinmug_laws.proofs.AdditiveLemmas.EvenTables.{lines-even, lines-cost}

ended-mapped : (line : ℕ → List ℕ) (ys : List ℕ) → flat_map (ended line) ys ≡ ended_lines (map line ys)
ended-mapped line [] = refl
ended-mapped line (y ∷ ys) = ap (λ bytes. ended line y ++ bytes) (ended-mapped line ys)

whole-of : (p : ℕ → Bool) (rows : List (List (List ℕ))) → AreTextsOf p rows → AreWholeTexts rows
whole-of p rows texts = All-keeps (AllByRecursion (IsTextOf p)) (AllByRecursion IsWholeText) (λ row all. All-keeps (IsTextOf p) IsWholeText (λ text is. is.whole) row all) rows texts

module _ (s : State) (shown : IsShown s) where
  each-closed : (ys : List ℕ) → AllByRecursion IsClosedLine (map (drawn_line s) ys)
  each-closed [] = tt
  each-closed (y ∷ ys) = (line-closed s (own-closing s.look shown.look) shown.texts shown.colors y, each-closed ys)

-- lines, each of which is even in so many columns and closed, and below them how many columns and rows are left out
pub record PrintsLines (Even : ℕ → List ℕ → Type 0) (more : List ℕ) (old new : Option (List ℕ)) : Type 0 where
  pub columns : ℕ
  pub lines : List (List ℕ)
  pub even : All (Even columns) lines
  pub closed : All IsClosedLine lines
  pub appends : Appends old new (ended_lines lines ++ more)

module _ (options : Options) (which : RowsShown) (rows : List (List (List ℕ))) (counts : Option (ℕ × ℕ)) (closing : HaveClosingColors options) where
  abbrev lines_chosen : LineKind → Bool
  lines_chosen = is_chosen options.rules options.header (length (cells_in options which rows))

  -- how many columns and rows are left out
  abbrev more : List ℕ
  more = columns_line options.line_style counts ++ rows_line (codes "row") which

  -- in a box: the chosen lines, and below them how many columns and rows are left out
  abbrev box_if : State → Bool → List ℕ
  box_if s markdown =
      if markdown then document_text (below options.line_style counts which) s
      else chosen_lines lines_chosen s ++ ((if markdown && nat_lt 0 (left_out_of which) then codes "\n" else []) ++ more)

  box : (s : State) → is_markdown options.line_style ≡ false → text_of options which rows counts s ≡ ended_lines (map (drawn_line s) (chosen_numbers s lines_chosen)) ++ more
  box s in_box = ap (box_if s) in_box ∙ ap (λ bytes. bytes ++ more) (chosen-ended s lines_chosen ∙ ended-mapped (drawn_line s) (chosen_numbers s lines_chosen))

  module _ (p : ℕ → Bool) (texts : AreTextsOf p rows) (Even : ℕ → List ℕ → Type 0)
      (each : (s : State) (chooses : LineKind → Bool) → IsTable options which rows s → IsFitsAnswer s (Ok tt) → All (Even (drawn_width s)) (map (drawn_line s) (chosen_numbers s chooses))) where
    pub printed : (wider : Bool) (old new : Option (List ℕ)) → is_markdown options.line_style ≡ false → PrintsShown options which rows counts wider old new → PrintsLines Even more old new
    printed wider old new in_box prints =
        let s = prints.1.0 in
        let shown : IsShown s = table-shown options which rows closing (whole-of p rows texts) s prints.1.1 in
        let lines = map (drawn_line s) (chosen_numbers s lines_chosen) in
        record {
          columns = drawn_width s;
          lines = lines;
          even = each s lines_chosen prints.1.1 prints.1.2;
          closed = All-from_recursion IsClosedLine lines (each-closed s shown (chosen_numbers s lines_chosen));
          appends = subst (Appends old new) (box s in_box) prints.1.4;
        }

  pub printed-measured : AreAdditiveTexts rows → (wider : Bool) (old new : Option (List ℕ)) → is_markdown options.line_style ≡ false → PrintsShown options which rows counts wider old new
      → (columns : ℕ) × (lines : List (List ℕ)) × AreMeasuredLines columns lines × Appends old new (ended_lines lines ++ (columns_line options.line_style counts ++ rows_line (codes "row") which))
  printed-measured texts wider old new in_box prints =
      let made = printed is_additive texts (λ columns line. measure (shown_chars line) ≡ columns) (λ s chooses is fits. lines-even options which rows closing texts s chooses is fits) wider old new in_box prints in
      (made.columns, made.lines, record { even = made.even; closed = made.closed }, made.appends)

  pub printed-cost : AreTextsOf is_spacing rows → (wider : Bool) (old new : Option (List ℕ)) → is_markdown options.line_style ≡ false → PrintsShown options which rows counts wider old new
      → (columns : ℕ) × (lines : List (List ℕ)) × AreEvenLines columns lines × Appends old new (ended_lines lines ++ (columns_line options.line_style counts ++ rows_line (codes "row") which))
  printed-cost texts wider old new in_box prints =
      let made = printed is_spacing texts (λ columns line. line_cost (shown_chars line) ≡ columns) (λ s chooses is fits. lines-cost options which rows closing texts s chooses is fits) wider old new in_box prints in
      (made.columns, made.lines, record { even = made.even; closed = made.closed }, made.appends)
