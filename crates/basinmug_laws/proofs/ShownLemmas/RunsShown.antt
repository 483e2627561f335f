-- What is printed of records shows their picture, and without styles it is what is printed of the stripped texts.
use Rattle.std.proofs.Common.{◌≡◌, ◌<◌, ℕ, Bool, true, false, List, [], ◌∷◌, ◌++◌, Option, Ok, length, map, refl, ap, sym, subst, ◌∙◌, if◌then◌else◌}
use Rattle.std.specs.List.{range_with_len}
use Rattle.std.specs.Io.KnownBytes.{Appends}
use Rattle.std.proofs.Math.Path.{fun_ext}
use Rattle.std.proofs.lemmas.List.{length-map}
use Rattle.ansi_scan.specs.Pieces.{pieces}
use Rattle.ansi_scan.specs.Sequences.{Piece}
use Rattle.ansi_scan.proofs.Uniqueness.{pieces-ArePiecesOf}
use Rattle.ansi_str_search.specs.Text.StyledText.{strip}
use Rattle.grid_config_values.specs.declared.alignment.AlignmentHorizontal.{AlignmentHorizontal}
use Rattle.papergrid.specs.LineKind.{LineKind}
use Rattle.papergrid_picture.proofs.ColorsLemmas.Stripped.{closing-show_nothing}
use Rattle.papergrid_picture.specs.Picture.{at}
use Rattle.papergrid_picture.specs.Shown.{AreWholeTexts, Shows, stripped_texts}
use Rattle.papergrid_picture.proofs.Shown.{ShowsHere, ShowsHere-append}
use Rattle.papergrid_picture.proofs.Stripped.{Leaves, Leaves-append}
use Rattle.tabled.specs.Narrowed.{line_columns}
use Rattle.tabled.specs.Printing.{IsFitsAnswer, drawn_widths}
use Rattle.tabled.specs.Totals.{drawn_height, drawn_width}
use Rattle.tabled.specs.Writing.{chosen_lines}
use Rattle.tabled_steps.specs.States.{State, column_count}
use Rattle.tabled_list.specs.Stripping.Stripping.{stripped_state, uncolored_state}
use Rattle.tabled_list.proofs.StrippingLemmas.StrippedTables.{widths-stripped}
use Rattle.basinmug_columns.specs.Markdown.Documents.{delimiter_row}
use Rattle.basinmug_columns.specs.declared.rows.RowsShown.{RowsShown}
use Rattle.basinmug_run.specs.declared.options.Options.{Options}
use Rattle.basinmug_run.specs.Picture.Documents.{document_text, header_alignments, header_delimiters, is_header_line, is_record_line}
use Rattle.basinmug_run.specs.Picture.Lines.{is_chosen, lines_text}
use Rattle.basinmug_run.specs.Picture.Pictures.{IsTable, cells_in}
use Rattle.basinmug_run.specs.Picture.Printed.{PrintsShown, text_of}
use Rattle.basinmug_run.specs.Picture.Rows.{is_markdown}
use Rattle.tables_laws.specs.Shown.CountedTables.{TextsAddUp}
use Rattle.tables_laws.specs.Shown.ShownTables.{chosen_picture}
use Rattle.tables_laws.proofs.ShownLemmas.ChosenLines.{chosen-here}
use Rattle.tables_laws.proofs.ShownLemmas.EvenLines.{line-columns}
use Rattle.tables_laws.proofs.ShownLemmas.LineEnds.{ends-plain}
use Rattle.tables_laws.proofs.ShownLemmas.Pictures.{by-pieces}
use Rattle.tables_laws.proofs.ShownLemmas.SomeCells.{no_spans, positive-none, some-cells}
use Rattle.tables_laws.proofs.ShownLemmas.StrippedLines.{chosen-leaves}
use Rattle.basinmug_laws.specs.Shown.ClosingOptions.{HaveClosingColors}
use Rattle.basinmug_laws.specs.Shown.Records.{Rows, table_in}
use Rattle.basinmug_laws.specs.Shown.RunsShown.{ShowsRecords, box_picture, document_picture, left_out_line, plainly_shown}
use Rattle.basinmug_laws.proofs.ShownLemmas.PlainTexts.{AreShownBytes, ascii-text, text-here, text-leaves}
use Rattle.basinmug_laws.proofs.ShownLemmas.PrintedTables.{below-shown, picture-plain, row-shown}
use Rattle.basinmug_laws.proofs.ShownLemmas.RunTables.{table-made}
use Rattle.basinmug_laws.proofs.ShownLemmas.Tables.{IsShown, own-bare, own-closing, own-counts, table-shown}

-- ---- lines of ASCII

ascii-here : (bytes : List ℕ) → AreShownBytes bytes → ShowsHere bytes (plainly_shown bytes)
ascii-here bytes all = text-here bytes (ascii-text bytes all)

ascii-leaves : (bytes : List ℕ) → AreShownBytes bytes → Leaves bytes bytes
ascii-leaves bytes all = text-leaves bytes (ascii-text bytes all)

-- ---- one table

columns-stripped : (rows : Rows) → column_count (stripped_texts rows) ≡ column_count rows
columns-stripped [] = refl
columns-stripped (row ∷ rows) = length-map row (λ text. strip (pieces text))

module _ (options : Options) (which : RowsShown) (rows : Rows) (columns : Option (ℕ × ℕ)) (s : State) (shown : IsShown s) where
  -- the table of the stripped texts, without the colours of its cells
  abbrev other : State
  other = uncolored_state (stripped_state s)

  abbrev more : List ℕ
  more = left_out_line options which rows columns

  more-bytes : AreShownBytes more
  more-bytes = below-shown options.line_style columns which

  marks-bytes : AreShownBytes (header_delimiters s)
  marks-bytes = row-shown (header_alignments s) (drawn_widths s)

  here : (chooses : LineKind → Bool) → ShowsHere (chosen_lines chooses s) (chosen_picture s chooses)
  here chooses = chosen-here s chooses (own-closing s.look shown.look) shown.texts shown.colors

  leaves : (chooses : LineKind → Bool) → Leaves (chosen_lines chooses s) (chosen_lines chooses other)
  leaves chooses = chosen-leaves s (own-closing s.look shown.look) (own-bare s.look shown.look) shown.texts shown.colors chooses

  -- in a box

  abbrev box_choice : LineKind → Bool
  box_choice = is_chosen options.rules options.header (length (cells_in options which rows))

  box-here : ShowsHere (chosen_lines box_choice s ++ more) (box_picture options which rows columns s)
  box-here = ShowsHere-append (chosen_lines box_choice s) more (chosen_picture s box_choice) (plainly_shown more) (here box_choice) (ascii-here more more-bytes)

  box-leaves : Leaves (chosen_lines box_choice s ++ more) (chosen_lines box_choice other ++ more)
  box-leaves = Leaves-append (chosen_lines box_choice s) more (chosen_lines box_choice other) more (leaves box_choice) (ascii-leaves more more-bytes)

  -- in a document

  abbrev marks : List ℕ
  marks = header_delimiters s

  same-marks : header_delimiters other ≡ marks
  same-marks =
      let of_columns : ℕ → List AlignmentHorizontal = λ n. map (λ column. s.look.alignment_horizontal (at 0 column)) (range_with_len 0 n) in
      ap (λ n. delimiter_row (of_columns n) (drawn_widths other)) (columns-stripped s.rows) ∙ ap (delimiter_row (header_alignments s)) (widths-stripped s)

  document-here : ShowsHere (document_text more s) (document_picture options which rows columns s)
  document-here =
      ShowsHere-append (chosen_lines is_header_line s) (marks ++ (chosen_lines is_record_line s ++ more))
      (chosen_picture s is_header_line) (plainly_shown marks ++ (chosen_picture s is_record_line ++ plainly_shown more)) (here is_header_line)
      (ShowsHere-append marks (chosen_lines is_record_line s ++ more) (plainly_shown marks) (chosen_picture s is_record_line ++ plainly_shown more) (ascii-here marks marks-bytes)
      (ShowsHere-append (chosen_lines is_record_line s) more (chosen_picture s is_record_line) (plainly_shown more) (here is_record_line) (ascii-here more more-bytes)))

  document-leaves : Leaves (document_text more s) (document_text more other)
  document-leaves =
      subst (λ (bytes : List ℕ). Leaves (document_text more s) (chosen_lines is_header_line other ++ (bytes ++ (chosen_lines is_record_line other ++ more)))) (sym same-marks)
      (Leaves-append (chosen_lines is_header_line s) (marks ++ (chosen_lines is_record_line s ++ more))
      (chosen_lines is_header_line other) (marks ++ (chosen_lines is_record_line other ++ more)) (leaves is_header_line)
      (Leaves-append marks (chosen_lines is_record_line s ++ more) marks (chosen_lines is_record_line other ++ more) (ascii-leaves marks marks-bytes)
      (Leaves-append (chosen_lines is_record_line s) more (chosen_lines is_record_line other) more (leaves is_record_line) (ascii-leaves more more-bytes))))

  -- in either

  printed-here : ShowsHere (text_of options which rows columns s) (if is_markdown options.line_style then document_picture options which rows columns s else box_picture options which rows columns s)
  printed-here = by (is_markdown options.line_style)
    where
      by : (b : Bool) → ShowsHere (if b then document_text more s else lines_text options.rules options.header (length (cells_in options which rows)) more s) (if b then document_picture options which rows columns s else box_picture options which rows columns s)
      by true = document-here
      by false = box-here

  printed-leaves : Leaves (text_of options which rows columns s) (text_of options which rows columns other)
  printed-leaves = by (is_markdown options.line_style)
    where
      by : (b : Bool) → Leaves (if b then document_text more s else lines_text options.rules options.header (length (cells_in options which rows)) more s)
          (if b then document_text more other else lines_text options.rules options.header (length (cells_in options which rows)) more other)
      by true = document-leaves
      by false = box-leaves

  -- ---- even lines

  even : IsFitsAnswer s (Ok tt) → TextsAddUp s.look s.rows → (y : ℕ) → y < drawn_height s → line_columns s y ≡ drawn_width s
  even fits adds y inside =
      let some = some-cells s y inside in
      line-columns [] s y (record {
        extents = shown.look.single_cells ∙ fun_ext no_spans;
        positive = positive-none;
        some_rows = some.0;
        some_columns = some.1;
        fits = fits;
        counts = own-counts s.look shown.look;
        cells = closing-show_nothing s.colors shown.colors;
        texts = adds;
      })

-- ---- what is printed

module _ (options : Options) (which : RowsShown) (rows : Rows) (columns : Option (ℕ × ℕ)) (closing : HaveClosingColors options) (whole : AreWholeTexts rows) where
  made-shows : (s : State) → IsTable options which rows s → IsFitsAnswer s (Ok tt) → ShowsRecords options which rows columns (text_of options which rows columns s)
  made-shows s is fits =
      let made = table-made options which rows closing s is in
      let rooms = made.0 in
      let same : s ≡ table_in options which rows rooms = made.2 in
      let shown : IsShown s = table-shown options which rows closing whole s is in
      let output = text_of options which rows columns s in
      let left = printed-leaves options which rows columns s shown in
      record {
        rooms = rooms;
        are_rooms = made.1;
        picture =
            subst (λ (t : State). Shows output (if is_markdown options.line_style then document_picture options which rows columns t else box_picture options which rows columns t)) same
            (by-pieces output (if is_markdown options.line_style then document_picture options which rows columns s else box_picture options which rows columns s) (printed-here options which rows columns s shown));
        lines = ends-plain output (picture-plain s shown options.line_style options.rules options.header (length (cells_in options which rows)) columns which);
        stripped = λ (ps : List Piece) of_output.
            ap strip (sym (pieces-ArePiecesOf output ps of_output)) ∙ left.left ∙ ap (λ (t : State). text_of options which rows columns (uncolored_state (stripped_state t))) same;
        even = subst (λ (t : State). TextsAddUp t.look t.rows → (y : ℕ) → y < drawn_height t → line_columns t y ≡ drawn_width t) same (even options which rows columns s shown fits);
      }

  pub prints-shows : (wider : Bool) (old new : Option (List ℕ)) → PrintsShown options which rows columns wider old new → (output : List ℕ) × Appends old new output × ShowsRecords options which rows columns output
  prints-shows wider old new prints = let s = prints.1.0 in (text_of options which rows columns s, prints.1.4, made-shows s prints.1.1 prints.1.2)
