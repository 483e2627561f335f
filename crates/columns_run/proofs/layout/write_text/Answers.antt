use Rattle.std.proofs.Common.{◌≡◌, [], length, false, List, ℕ, Option, Some, ap, map, refl, subst, sym, ◌∙◌}
use Rattle.std.specs.Prelude.{◌↔◌, IfSome, IsSome}
use Rattle.std.proofs.lemmas.List.{length-map}
use Rattle.ansi_str_search.specs.Text.StyledText.{has_escape}
use Rattle.columns_table.specs.Rows.{row_texts_of}
use Rattle.columns_table.specs.declared.rows.Rows.{Rows}
use Rattle.columns_run.specs.Cells.{byte_line, line_of_cell, line_rows, rows_shown}
use Rattle.columns_run.specs.Rows.{rows_of}
use Rattle.columns_run.specs.Wanted.{wanted_of}
use Rattle.columns_run.proofs.Cells.{whole_text}
use Rattle.columns_run.proofs.OneLine.{cells-measured}
use Rattle.columns_run.proofs.Places.{IsWhole-without_escape}
use Rattle.columns_run.proofs.Tables.{answered, left-alone, line_rows-plain, output-is}
use Rattle.grid_config.specs.Compact.{compact_of}
use Rattle.tabled_output.specs.Pieces.{Passes}
use Rattle.tabled_output.proofs.WrittenPieces.{passes-nothing}
use Rattle.columns_asked.specs.Colors.ColoredTables.{colored_text}
use Rattle.columns_asked.specs.Colors.ColumnColors.{cell_color}
use Rattle.columns_run.specs.DrawnTables.{output_of}
use Rattle.columns_run.proofs.Written.{is-of-table, is-written}
use Rattle.columns_run.proofs.layout.write_text.Goals as goal

-- the rows are those of a text without ESC
record AreOf (text : List ℕ) (rows : Rows) : Type 0 where
  none : has_escape text ≡ false
  are : rows_shown rows ≡ line_rows text

are_of : (text : List ℕ) (found : Option Rows) (rows : Rows) → found ≡ Some rows → (IsSome found ↔ (has_escape text ≡ false))
    → IfSome found (λ rows. rows_shown rows ≡ map (map byte_line) (rows_of (λ b. b) text)) → AreOf text rows
are_of text found rows is plain same =
    let none : has_escape text ≡ false = (subst (λ found. IsSome found ↔ (has_escape text ≡ false)) is plain).0 refl in
    record {
      none = none;
      are = subst (λ found. IfSome found (λ rows. rows_shown rows ≡ map (map byte_line) (rows_of (λ b. b) text))) is same ∙ line_rows-plain text none;
    }

pub write_buffered_rows-requires : goal.write_buffered_rows-requires
write_buffered_rows-requires g c =
    let text = c.args.text.now in
    let rows = c.in-Some.rows in
    let known = are_of text c.in_ok-rows.field-0 rows c.in-Some.is c.in_ok-rows.ensures.without_escape c.in_ok-rows.ensures.rows in
    record { measured = cells-measured text rows (whole_text text c.utf8.text (IsWhole-without_escape text known.none)) (rows.whole ∙ sym (length-map rows.cells line_of_cell)) known.are }

pub returns : goal.returns
returns g c =
    let text = c.args.text.now in
    let rows = c.in-Some.rows in
    let known = are_of text c.in_ok-rows.field-0 rows c.in-Some.is c.in_ok-rows.ensures.without_escape c.in_ok-rows.ensures.rows in
    let whole = IsWhole-without_escape text known.none in
    let output = output-is (wanted_of c.args.options.now) text c.utf8.text whole rows known.are c.limit_of-limit.result c.limit_of-limit.ensures c.as_slice-colors.result.now c.as_slice-colors.ensures.value in
    record {
      answers = answered (wanted_of c.args.options.now) text c.utf8.text whole rows known.are c.limit_of-limit.result c.limit_of-limit.ensures c.write_buffered_rows.result c.answer.result c.answer.ensures c.write_buffered_rows.ensures.fits c.write_buffered_rows.ensures.refused;
      written = is-written g.W.Write.contents (output_of (wanted_of c.args.options.now) text) c.args.writer.now c.write_buffered_rows.new.writer (compact_of c.args.options.now.style) c.limit_of-limit.result (row_texts_of rows) c.write_buffered_rows.result c.answer.result c.answer.ensures
          (subst (λ text. Passes g.W.Write.contents text c.write_buffered_rows.result [] c.args.writer.now c.write_buffered_rows.new.writer) output c.write_buffered_rows.ensures.table) c.write_buffered_rows.ensures.alone c.write_buffered_rows.ensures.refused;
      alone = left-alone (wanted_of c.args.options.now) text c.utf8.text whole rows known.are c.limit_of-limit.result c.limit_of-limit.ensures c.args.writer.now c.write_buffered_rows.new.writer c.write_buffered_rows.ensures.alone
          (λ none. passes-nothing g.W.Write.contents (colored_text (compact_of c.args.options.now.style) c.limit_of-limit.result (cell_color c.as_slice-colors.result.now) (row_texts_of rows)) [] c.write_buffered_rows.result c.args.writer.now c.write_buffered_rows.new.writer c.write_buffered_rows.ensures.table (ap length output ∙ none));
      faults = is-of-table c.write_buffered_rows.result c.answer.result c.answer.ensures;
    }
