-- What is printed of a table, by its lines: what holds of each of them and of the program's own lines, and of bytes one after the other,
-- holds of all that is printed.
use Rattle.std.proofs.Common.{◌-◌, ◌==◌, ◌&&◌, ◌||◌, nat_le, nat_lt, max, ℕ, Bool, true, false, List, [], ◌∷◌, ◌++◌, Option, None, Some, length, refl, sym, subst, if◌then◌else◌}
use Rattle.std.specs.Prelude.{codes, decimal, flat_map, slice_index_or}
use Rattle.std.specs.List.{range_with_len}
use Rattle.grid_config_values.specs.declared.alignment.AlignmentHorizontal.{AlignmentHorizontal}
use Rattle.grid_config_values.specs.declared.alignment.AlignmentHorizontal.TheVariants.{Left, Center, Right}
use Rattle.papergrid.specs.LineKind.{LineKind}
use Rattle.tabled.specs.Printing.{drawn_widths}
use Rattle.tabled.specs.Totals.{drawn_line}
use Rattle.tabled.specs.Writing.{chosen_lines}
use Rattle.tabled_steps.specs.States.{State}
use Rattle.tables_laws.specs.Shown.ShownTables.{chosen_numbers}
use Rattle.tables_laws.proofs.ShownLemmas.ChosenLines.{chosen-ended, ended}
use Rattle.basinmug_columns.specs.Markdown.Documents.{column_mark, column_mark_of, delimiter_row, hyphens}
use Rattle.program_options.specs.declared.basinmug.LineStyle.{LineStyle}
use Rattle.basinmug_run.specs.declared.options.Options.{Options}
use Rattle.basinmug_run.specs.Picture.Documents.{document_text, header_alignments, header_delimiters, is_header_line, is_record_line}
use Rattle.basinmug_columns.specs.Rows.{after_noun, before_noun, left_out_of, plural_end, rows_line}
use Rattle.basinmug_columns.specs.declared.rows.RowsShown.{RowsShown}
use Rattle.basinmug_columns.specs.declared.rows.RowsShown.TheVariants.{All, More, Earlier, Between}
use Rattle.basinmug_run.specs.Picture.Lines.{below, blank_line, columns_line, is_chosen, lines_text}
use Rattle.basinmug_run.specs.Picture.Pictures.{cells_in}
use Rattle.basinmug_run.specs.Picture.Printed.{text_of as printed_text}
use Rattle.basinmug_run.specs.Picture.Rows.{is_markdown}
use Rattle.basinmug_laws.proofs.ShownLemmas.OwnBytes.{AreOwnBytes, own-append, own-decimal, own-replicate}

-- ---- the program's own lines

-- the line that says how many are left out, of a noun

own-before : (shown : RowsShown) → AreOwnBytes (before_noun shown)
own-before All = refl
own-before (More count) = refl
own-before (Earlier count) = refl
own-before (Between first count) = refl

own-after : (shown : RowsShown) → AreOwnBytes (after_noun shown ++ codes ")\n")
own-after All = refl
own-after (More count) = refl
own-after (Earlier count) = refl
own-after (Between first count) = refl

own-plural : (count : ℕ) → AreOwnBytes (plural_end count)
own-plural count = by (count == 1)
  where
    by : (one : Bool) → AreOwnBytes (if one then [] else codes "s")
    by true = refl
    by false = refl

pub own-rows : (noun : List ℕ) → AreOwnBytes noun → (shown : RowsShown) → AreOwnBytes (rows_line noun shown)
own-rows noun is shown = by (left_out_of shown == 0)
  where
    by : (none : Bool)
        → AreOwnBytes (if none then [] else codes "(" ++ (decimal (left_out_of shown) ++ (codes " " ++ (before_noun shown ++ (noun ++ (plural_end (left_out_of shown) ++ (after_noun shown ++ codes ")\n")))))))
    by true = refl
    by false =
        let end = after_noun shown ++ codes ")\n" in
        let ended = plural_end (left_out_of shown) ++ end in
        let named = noun ++ ended in
        let told = before_noun shown ++ named in
        own-append (codes "(") (decimal (left_out_of shown) ++ (codes " " ++ told)) refl
        (own-append (decimal (left_out_of shown)) (codes " " ++ told) (own-decimal (left_out_of shown))
        (own-append (codes " ") told refl
        (own-append (before_noun shown) named (own-before shown)
        (own-append noun ended is (own-append (plural_end (left_out_of shown)) end (own-plural (left_out_of shown)) (own-after shown))))))

pub own-columns : (line_style : LineStyle) (columns : Option (ℕ × ℕ)) → AreOwnBytes (columns_line line_style columns)
own-columns line_style None = refl
own-columns line_style (Some (shown, all)) = by (is_markdown line_style || nat_le all shown)
  where
    by : (none : Bool) → AreOwnBytes (if none then [] else codes "(" ++ (decimal shown ++ (codes " of " ++ (decimal all ++ codes " columns)\n"))))
    by true = refl
    by false =
        own-append (codes "(") (decimal shown ++ (codes " of " ++ (decimal all ++ codes " columns)\n"))) refl
        (own-append (decimal shown) (codes " of " ++ (decimal all ++ codes " columns)\n")) (own-decimal shown)
        (own-append (codes " of ") (decimal all ++ codes " columns)\n") refl (own-append (decimal all) (codes " columns)\n") (own-decimal all) refl)))

pub own-below : (line_style : LineStyle) (columns : Option (ℕ × ℕ)) (shown : RowsShown) → AreOwnBytes (below line_style columns shown)
own-below line_style columns shown =
    own-append (blank_line line_style (left_out_of shown)) (columns_line line_style columns ++ rows_line (codes "row") shown) (by (is_markdown line_style && nat_lt 0 (left_out_of shown)))
    (own-append (columns_line line_style columns) (rows_line (codes "row") shown) (own-columns line_style columns) (own-rows (codes "row") refl shown))
  where
    by : (b : Bool) → AreOwnBytes (if b then codes "\n" else [])
    by true = refl
    by false = refl

own-mark : (place : AlignmentHorizontal) (width : ℕ) → AreOwnBytes (column_mark place width)
own-mark Left width = own-append (codes ":") (hyphens (width - 1)) refl (own-replicate 0x2d refl (max 1 (width - 1)))
own-mark Center width = own-append (codes ":") (hyphens (width - 2) ++ codes ":") refl (own-append (hyphens (width - 2)) (codes ":") (own-replicate 0x2d refl (max 1 (width - 2))) refl)
own-mark Right width = own-append (hyphens (width - 1)) (codes ":") (own-replicate 0x2d refl (max 1 (width - 1))) refl

own-marks : (alignments : List AlignmentHorizontal) (widths columns : List ℕ) → AreOwnBytes (flat_map (column_mark_of alignments widths) columns)
own-marks alignments widths [] = refl
own-marks alignments widths (column ∷ columns) =
    let mark = column_mark (slice_index_or alignments column Left) (slice_index_or widths column 0) in
    own-append (mark ++ codes "|") (flat_map (column_mark_of alignments widths) columns)
    (own-append mark (codes "|") (own-mark (slice_index_or alignments column Left) (slice_index_or widths column 0)) refl)
    (own-marks alignments widths columns)

pub own-row : (alignments : List AlignmentHorizontal) (widths : List ℕ) → AreOwnBytes (delimiter_row alignments widths)
own-row alignments [] = refl
own-row alignments (width ∷ widths) =
    let columns = range_with_len 0 (length (width ∷ widths)) in
    let marks = flat_map (column_mark_of alignments (width ∷ widths)) columns in
    own-append (codes "|") (marks ++ codes "\n") refl (own-append marks (codes "\n") (own-marks alignments (width ∷ widths) columns) refl)

-- ---- all that is printed

module _ (P : List ℕ → Type 0) (nothing : P []) (append : (a b : List ℕ) → P a → P b → P (a ++ b)) (own : (bytes : List ℕ) → AreOwnBytes bytes → P bytes)
    (s : State) (line : (y : ℕ) → P (drawn_line s y)) where
  lines-of : (ys : List ℕ) → P (flat_map (ended (drawn_line s)) ys)
  lines-of [] = nothing
  lines-of (y ∷ ys) =
      append (ended (drawn_line s) y) (flat_map (ended (drawn_line s)) ys) (append (drawn_line s y) (codes "\n") (line y) (own (codes "\n") refl)) (lines-of ys)

  chosen-of : (chooses : LineKind → Bool) → P (chosen_lines chooses s)
  chosen-of chooses = subst P (sym (chosen-ended s chooses)) (lines-of (chosen_numbers s chooses))

  module _ (options : Options) (shown : RowsShown) (rows : List (List (List ℕ))) (columns : Option (ℕ × ℕ)) where
    abbrev more : List ℕ
    more = below options.line_style columns shown

    more-of : P more
    more-of = own more (own-below options.line_style columns shown)

    box-of : P (lines_text options.rules options.header (length (cells_in options shown rows)) more s)
    box-of =
        let chooses = is_chosen options.rules options.header (length (cells_in options shown rows)) in
        append (chosen_lines chooses s) more (chosen-of chooses) more-of

    document-of : P (document_text more s)
    document-of =
        let marks = header_delimiters s in
        append (chosen_lines is_header_line s) (marks ++ (chosen_lines is_record_line s ++ more)) (chosen-of is_header_line)
        (append marks (chosen_lines is_record_line s ++ more) (own marks (own-row (header_alignments s) (drawn_widths s)))
        (append (chosen_lines is_record_line s) more (chosen-of is_record_line) more-of))

    pub all-printed : P (printed_text options shown rows columns s)
    all-printed = by (is_markdown options.line_style)
      where
        by : (b : Bool) → P (if b then document_text more s else lines_text options.rules options.header (length (cells_in options shown rows)) more s)
        by true = document-of
        by false = box-of
