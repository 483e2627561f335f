-- What is printed of a table of records ends no line with a style open.
use Rattle.std.proofs.Common.{ℕ, Bool, true, false, List, ◌++◌, Option, None, length, if◌then◌else◌}
use Rattle.std.specs.Io.KnownBytes.{Appends}
use Rattle.grid_config_values.specs.declared.alignment.AlignmentHorizontal.{AlignmentHorizontal}
use Rattle.papergrid.specs.LineKind.{LineKind}
use Rattle.papergrid_picture.specs.Shown.{AreWholeTexts, IsWholeText}
use Rattle.tabled.specs.Printing.{drawn_widths}
use Rattle.tabled.specs.Writing.{chosen_lines}
use Rattle.tabled_steps.specs.States.{State}
use Rattle.basinmug_columns.specs.Markdown.Documents.{delimiter_row}
use Rattle.program_options.specs.declared.basinmug.LineStyle.{LineStyle}
use Rattle.basinmug_run.specs.declared.options.Options.{Options}
use Rattle.program_options.specs.declared.basinmug.Rules.{Rules}
use Rattle.basinmug_run.specs.Picture.Documents.{document_text, header_alignments, header_delimiters}
use Rattle.basinmug_columns.specs.declared.rows.RowsShown.{RowsShown}
use Rattle.basinmug_run.specs.Kept.{rows_shown, shown_rows}
use Rattle.basinmug_run.specs.Picture.Lines.{below, is_chosen, lines_text, picture_text}
use Rattle.basinmug_run.specs.Picture.Pictures.{cells_in}
use Rattle.basinmug_run.specs.Picture.Printed.{Prints, PrintsShown, text_of}
use Rattle.basinmug_run.specs.Picture.Rows.{is_markdown}
use Rattle.tables_laws.specs.Shown.PlainEnds.{EndsLinesPlain}
use Rattle.tables_laws.proofs.ShownLemmas.ChosenLines.{chosen-plain}
use Rattle.tables_laws.proofs.ShownLemmas.LineEnds.{PlainHere, ends-plain, plain-append}
use Rattle.basinmug_laws.specs.Shown.ClosingOptions.{HaveClosingColors}
use Rattle.basinmug_laws.proofs.ShownLemmas.KeptRows.{shown-all}
use Rattle.basinmug_laws.proofs.ShownLemmas.OwnBytes.{own-shown}
use Rattle.basinmug_laws.proofs.ShownLemmas.PlainTexts.{AreShownBytes, ascii-text, plain-text}
use Rattle.basinmug_laws.proofs.ShownLemmas.PrintedLines.{own-below, own-row}
use Rattle.basinmug_laws.proofs.ShownLemmas.Tables.{IsShown, own-closing, table-shown}

-- ---- lines of ASCII

plain-ascii : (bytes : List ℕ) → AreShownBytes bytes → PlainHere bytes
plain-ascii bytes all = plain-text bytes (ascii-text bytes all)

pub below-shown : (line_style : LineStyle) (columns : Option (ℕ × ℕ)) (rows : RowsShown) → AreShownBytes (below line_style columns rows)
below-shown line_style columns rows = own-shown (below line_style columns rows) (own-below line_style columns rows)

pub row-shown : (alignments : List AlignmentHorizontal) (widths : List ℕ) → AreShownBytes (delimiter_row alignments widths)
row-shown alignments widths = own-shown (delimiter_row alignments widths) (own-row alignments widths)

-- ---- what is printed

module _ (s : State) (shown : IsShown s) where
  chosen : (chooses : LineKind → Bool) → PlainHere (chosen_lines chooses s)
  chosen chooses = chosen-plain s chooses (own-closing s.look shown.look) shown.texts shown.colors

  lines-plain : (rules : Rules) (header : Bool) (rows : ℕ) (more : List ℕ) → PlainHere more → PlainHere (lines_text rules header rows more s)
  lines-plain rules header rows more plain = plain-append (chosen_lines (is_chosen rules header rows) s) more (chosen (is_chosen rules header rows)) plain

  -- lines, a row of marks, and other lines
  parts-plain : (first others : LineKind → Bool) (marks more : List ℕ) → PlainHere marks → PlainHere more → PlainHere (chosen_lines first s ++ (marks ++ (chosen_lines others s ++ more)))
  parts-plain first others marks more marked plain =
      plain-append (chosen_lines first s) (marks ++ (chosen_lines others s ++ more)) (chosen first)
      (plain-append marks (chosen_lines others s ++ more) marked (plain-append (chosen_lines others s) more (chosen others) plain))

  -- the parts of a document can't be named outside its crate
  document-plain : (more : List ℕ) → PlainHere more → PlainHere (document_text more s)
  document-plain more plain = let marked = plain-ascii (header_delimiters s) (row-shown (header_alignments s) (drawn_widths s)) in search (parts-plain, marked, plain)

  pub picture-plain : (line_style : LineStyle) (rules : Rules) (header : Bool) (rows : ℕ) (columns : Option (ℕ × ℕ)) (which : RowsShown) → PlainHere (picture_text line_style rules header rows (below line_style columns which) s)
  picture-plain line_style rules header rows columns which = by (is_markdown line_style)
    where
      more : PlainHere (below line_style columns which)
      more = plain-ascii (below line_style columns which) (below-shown line_style columns which)

      by : (b : Bool) → PlainHere (if b then document_text (below line_style columns which) s else lines_text rules header rows (below line_style columns which) s)
      by true = document-plain (below line_style columns which) more
      by false = lines-plain rules header rows (below line_style columns which) more

module _ (options : Options) (shown : RowsShown) (rows : List (List (List ℕ))) (columns : Option (ℕ × ℕ)) (closing : HaveClosingColors options) (whole : AreWholeTexts rows) where
  pub shown-printed : (wider : Bool) (old new : Option (List ℕ)) → PrintsShown options shown rows columns wider old new → (text : List ℕ) × Appends old new text × EndsLinesPlain text
  shown-printed wider old new prints =
      let s = prints.1.0 in
      let is : IsShown s = table-shown options shown rows closing whole s prints.1.1 in
      let text = text_of options shown rows columns s in
      let plain : PlainHere text = picture-plain s is options.line_style options.rules options.header (length (cells_in options shown rows)) columns shown in
      (text, prints.1.4, ends-plain text plain)

pub printed-plain : (options : Options) (rows : List (List (List ℕ))) → HaveClosingColors options → AreWholeTexts rows → (wider : Bool) (old new : Option (List ℕ)) → Prints options rows wider old new → (text : List ℕ) × Appends old new text × EndsLinesPlain text
printed-plain options rows closing whole = shown-printed options (rows_shown options rows) (shown_rows options rows) None closing (shown-all IsWholeText options rows whole)
