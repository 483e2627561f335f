-- The table of a text's cells is the table of the text.
use Rattle.std.proofs.Common.{◌≡◌, ℕ, false, List, [], ◌∷◌, Result, Ok, Err, length, map, refl, ap, sym, subst, ◌∙◌, vec_items}
use Rattle.std.specs.Prelude.{chars, IfErr, IsUtf8, OnOk}
use Rattle.std.specs.List.{AllByRecursion}
use Rattle.std.proofs.lemmas.Simd.{map-map}
use Rattle.ansi_scan.specs.Sequences.{IsWhole}
use Rattle.ansi_str.specs.StyledText.{has_escape}
use Rattle.columns_asked.specs.DrawnTables.{AskedInRange, too_wide}
use Rattle.columns_asked.proofs.Stripped.{fits-stripped, too_wide-stripped}
use Rattle.columns_asked.specs.declared.asked.WidthLimit.{WidthLimit}
use Rattle.columns_asked.specs.Colors.ColoredTables.{colored_text}
use Rattle.columns_asked.specs.Colors.ColumnColors.{cell_color}
use Rattle.columns_table.proofs.SplitByLengths.{split_by_lengths-map}
use Rattle.columns_table.specs.Answers.{HasTable as TextsHaveTable, MayBeRefused}
use Rattle.columns_table.specs.Rows.{split_by_lengths, row_texts_of}
use Rattle.columns_table.specs.declared.cells.LineCell.{LineCell}
use Rattle.columns_table.specs.declared.rows.Rows.{Rows}
use Rattle.grid_config.specs.Colors.{Color}
use Rattle.grid_config.specs.Compact.{Compact}
use Rattle.grid_config_values.specs.declared.fault.Fault.{Fault}
use Rattle.grid_config_values.specs.declared.fault.Fault.TheVariants.{Memory, Range, Room, Spans}
use Rattle.grid_records_measure.specs.Measures.{measure}
use Rattle.columns_run.specs.Cells.{Line, byte_line, line_of_cell, line_rows, part_line, rows_shown, texts_of_lines}
use Rattle.columns_run.specs.Fault.{run_answer, run_fault}
use Rattle.columns_run.specs.DrawnTables.{TableInRange, output_of, wide_cell}
use Rattle.columns_run.specs.Rows.{cell_parts, rows_of}
use Rattle.columns_run.specs.Run.{HasTable, LeavesAlone, MayAnswer}
use Rattle.columns_run.specs.Wanted.{Wanted}
use Rattle.program_options.specs.declared.columns.fault.RunFault.{RunFault}
use Rattle.tabled_output.specs.declared.writing.WriteFault.{WriteFault}
use Rattle.tabled_output.specs.declared.writing.WriteFault.TheVariants.{Write as Failed, WriteZero as TookNothing}
use Rattle.columns_run.proofs.Cells.{texts-stripped, whole_cells, whole_text}
use Rattle.columns_run.proofs.Items.{map-same}
use Rattle.columns_run.proofs.Places.{cell_parts-plain, plain_cells, stripped-without_escape}
use Rattle.columns_run.proofs.Splits.{IsWholeText}

map-itself : {A : Type 0} (xs : List A) → map (λ x. x) xs ≡ xs
map-itself [] = refl
map-itself (x ∷ xs) = ap (λ rest. x ∷ rest) (map-itself xs)

texts-lines : (text : List ℕ) → texts_of_lines (line_rows text) ≡ cell_parts text
texts-lines text =
    map-map (map (λ (line : Line). line.items)) (map part_line) (cell_parts text)
    ∙ (λ k. map (λ row. (map-map (λ (line : Line). line.items) part_line row ∙ map-itself row) k) (cell_parts text))
    ∙ map-itself (cell_parts text)

-- without ESC the parts are the bytes
pub line_rows-plain : (text : List ℕ) → has_escape text ≡ false → map (map byte_line) (rows_of (λ b. b) text) ≡ line_rows text
line_rows-plain text none =
    sym (ap (map (map part_line)) (cell_parts-plain text none)
    ∙ map-same (AllByRecursion (λ part. has_escape part ≡ false)) (map part_line) (map byte_line)
    (λ row plain. map-same (λ part. has_escape part ≡ false) part_line byte_line (λ cell plain. ap (λ shown. record { measure = measure (chars shown); items = cell }) (stripped-without_escape cell plain)) row plain)
    (rows_of (λ b. b) text) (plain_cells text none))

-- the texts of measured rows
texts-split : (counts : List ℕ) (cells : List LineCell) → texts_of_lines (split_by_lengths counts (map line_of_cell cells)) ≡ map (map (λ cell. cell.text.now)) (split_by_lengths counts cells)
texts-split counts cells =
    ap (map (map (λ (line : Line). line.items))) (split_by_lengths-map line_of_cell counts cells)
    ∙ map-map (map (λ (line : Line). line.items)) (map line_of_cell) (split_by_lengths counts cells)
    ∙ (λ k. map (λ row. map-map (λ (line : Line). line.items) line_of_cell row k) (split_by_lengths counts cells))

pub texts-are : (rows : Rows) (text : List ℕ) → rows_shown rows ≡ line_rows text → row_texts_of rows ≡ cell_parts text
texts-are rows text are = sym (texts-split (vec_items rows.counts) rows.cells) ∙ ap texts_of_lines are ∙ texts-lines text

module _ (wanted : Wanted) (text : List ℕ) (whole : IsWholeText text) where
  pub fits-same : AskedInRange wanted.style wanted.limit (cell_parts text) ≡ TableInRange wanted text
  unfolding TableInRange
  fits-same =
      let style = wanted.style in
      sym (ap (AskedInRange style wanted.limit) (texts-stripped text whole) ∙ fits-stripped style wanted.limit (cell_parts text) (whole_cells text whole))

  pub wide-same : too_wide wanted.style wanted.limit (cell_parts text) ≡ wide_cell wanted text
  unfolding wide_cell
  wide-same =
      let style = wanted.style in
      sym (ap (too_wide style wanted.limit) (texts-stripped text whole) ∙ too_wide-stripped style wanted.limit (cell_parts text) (whole_cells text whole))

-- what is known of the texts of a text's cells is known of the text
module _ (wanted : Wanted) (text : List ℕ) (utf8 : IsUtf8 text) (whole : IsWhole text) (rows : Rows) (are : rows_shown rows ≡ line_rows text) (asked : WidthLimit) (same : asked ≡ wanted.limit) where
  abbrev style : Compact
  style = wanted.style

  abbrev texts : List (List (List ℕ))
  texts = row_texts_of rows

  fits : AskedInRange style asked texts ≡ TableInRange wanted text
  fits = ap (AskedInRange style asked) (texts-are rows text are) ∙ ap (λ asked. AskedInRange style asked (cell_parts text)) same ∙ fits-same wanted text (whole_text text utf8 whole)

  wide : too_wide style asked texts ≡ wide_cell wanted text
  wide = ap (too_wide style asked) (texts-are rows text are) ∙ ap (λ asked. too_wide style asked (cell_parts text)) same ∙ wide-same wanted text (whole_text text utf8 whole)

  pub output-is : (colors : List (ℕ × Color)) → colors ≡ wanted.colors → colored_text style asked (cell_color colors) texts ≡ output_of wanted text
  unfolding output_of
  output-is colors given =
      ap (colored_text style asked (cell_color colors)) (texts-are rows text are) ∙ ap (λ asked. colored_text style asked (cell_color colors) (cell_parts text)) same
      ∙ ap (λ (found : List (ℕ × Color)). colored_text style wanted.limit (cell_color found) (cell_parts text)) given

  has-table : TextsHaveTable style asked texts → HasTable wanted text
  has-table good = (utf8, whole, subst (λ (T : Type 0). T) fits good.fits, sym wide ∙ good.room)

  -- a text has no table for the reason that its texts have none
  refused : {T : Type 0} (given : Fault) (result : Result T RunFault) → result ≡ Err (run_fault given) → MayBeRefused style asked texts given → MayAnswer wanted text result
  refused Range result is told = subst (MayAnswer wanted text) (sym is) (utf8, whole, λ good. told (subst (λ (T : Type 0). T) (sym fits) good))
  refused (Room row column) result is told = subst (MayAnswer wanted text) (sym is) (utf8, whole, subst (λ (T : Type 0). T) fits told.0, sym wide ∙ told.1)
  refused Memory result is told = subst (MayAnswer wanted text) (sym is) tt
  refused Spans result is told = absurd told

  -- what a run returns for them is what it may return for the text
  answers : (given : Result (Result (Unit {0}) WriteFault) Fault) → OnOk given (TextsHaveTable style asked texts) → IfErr given (MayBeRefused style asked texts) → MayAnswer wanted text (run_answer given)
  answers (Ok (Ok done)) fits refuses = has-table fits
  answers (Ok (Err Failed)) fits refuses = has-table fits
  answers (Ok (Err TookNothing)) fits refuses = has-table fits
  answers (Err fault) fits refuses = refused {T = Unit {0}} fault (Err (run_fault fault)) refl refuses

  pub answered : (given : Result (Result (Unit {0}) WriteFault) Fault) (result : Result (Unit {0}) RunFault) → result ≡ run_answer given → OnOk given (TextsHaveTable style asked texts) → IfErr given (MayBeRefused style asked texts)
      → MayAnswer wanted text result
  answered given result is fits refuses = subst (MayAnswer wanted text) (sym is) (answers given fits refuses)

  -- texts have a table where the text has one
  lacks-table : ¬ (HasTable wanted text) → ¬ (TextsHaveTable style asked texts)
  lacks-table none good = none (has-table good)

  pub left-alone : {W : Type 0} (before after : W) → (¬ (TextsHaveTable style asked texts) → after ≡ before) → (length (output_of wanted text) ≡ 0 → after ≡ before) → LeavesAlone wanted text before after
  left-alone before after alone nothing = record { no_table = λ none. alone (lacks-table none); empty = nothing }
