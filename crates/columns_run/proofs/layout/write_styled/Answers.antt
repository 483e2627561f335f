use Rattle.std.proofs.Common.{◌≡◌, [], length, List, ℕ, Option, Some, map, string_bytes, ap, refl, subst, sym, ◌∙◌}
use Rattle.std.specs.Prelude.{◌↔◌, IfSome, IsSome}
use Rattle.std.proofs.lemmas.List.{length-map}
use Rattle.ansi_scan.specs.Sequences.{IsWhole}
use Rattle.columns_table.specs.Ends.{cells_in}
use Rattle.columns_table.specs.Rows.{split_by_lengths}
use Rattle.columns_table.specs.declared.cells.LineCell.{LineCell}
use Rattle.columns_table.specs.Rows.{row_texts_of}
use Rattle.columns_table.specs.declared.rows.Rows.{Rows}
use Rattle.columns_run.specs.Cells.{line_of_cell, line_rows, rows_shown}
use Rattle.columns_run.specs.Styled.{styled_cell_lines}
use Rattle.columns_run.specs.Wanted.{wanted_of}
use Rattle.columns_run.specs.declared.styled_rows.StyledCells.{StyledCells}
use Rattle.columns_run.proofs.Cells.{whole_text}
use Rattle.columns_run.proofs.OneLine.{cells-measured}
use Rattle.columns_run.proofs.Tables.{answered, left-alone, output-is}
use Rattle.grid_config.specs.Compact.{compact_of}
use Rattle.tabled_output.specs.Pieces.{Passes}
use Rattle.tabled_output.proofs.WrittenPieces.{passes-nothing}
use Rattle.columns_asked.specs.Colors.ColoredTables.{colored_text}
use Rattle.columns_asked.specs.Colors.ColumnColors.{cell_color}
use Rattle.columns_run.specs.DrawnTables.{output_of}
use Rattle.columns_run.proofs.Written.{is-of-table, is-written}
use Rattle.columns_run.proofs.layout.write_styled.Given.{Over}
use Rattle.columns_run.proofs.layout.write_styled.Goals as goal
use Rattle.columns_run.proofs.layout.write_styled.Goals.{After-of-rows}

-- the rows are those of a whole text
record AreOf (text : List ℕ) (rows : Rows) : Type 0 where
  whole : IsWhole text
  are : rows_shown rows ≡ line_rows text

are_of : (text own : List ℕ) (found : Option StyledCells) (styled : StyledCells) (rows : Rows) → found ≡ Some styled → own ≡ string_bytes styled.text → rows.cells ≡ cells_in own styled.rows.ends → rows.counts.items ≡ styled.rows.counts
    → (IsSome found ↔ IsWhole text) → IfSome found (λ styled. split_by_lengths styled.rows.counts (styled_cell_lines styled) ≡ line_rows text) → AreOf text rows
are_of text own found styled rows is own_is cells_are counts_are whole same = record {
  whole = (subst (λ found. IsSome found ↔ IsWhole text) is whole).0 refl;
  are = ap (λ (counts : List ℕ). split_by_lengths counts (map line_of_cell rows.cells)) counts_are
      ∙ ap (λ (cells : List LineCell). split_by_lengths styled.rows.counts (map line_of_cell cells)) (cells_are ∙ ap (λ bytes. cells_in bytes styled.rows.ends) own_is)
      ∙ subst (λ found. IfSome found (λ styled. split_by_lengths styled.rows.counts (styled_cell_lines styled) ≡ line_rows text)) is same;
}

known_rows : (g : Over) (c : After-of-rows g) → AreOf c.args.text.now c.of-rows.result
known_rows g c =
    are_of c.args.text.now c.deref.result.now c.in_ok-own.field-0 c.in-Some.field-0 c.of-rows.result c.in-Some.is c.deref.ensures c.of-rows.ensures.cells c.of-rows.ensures.counts
    c.in_ok-own.ensures.whole c.in_ok-own.ensures.cells

pub write_buffered_rows-requires : goal.write_buffered_rows-requires
write_buffered_rows-requires g c =
    let text = c.args.text.now in
    let rows = c.of-rows.result in
    let are = known_rows g (goal.at.write_buffered_rows-requires g c).After-of-rows in
    record { measured = cells-measured text rows (whole_text text c.utf8.text are.whole) (rows.whole ∙ sym (length-map rows.cells line_of_cell)) are.are }

pub returns : goal.returns
returns g c =
    let text = c.args.text.now in
    let rows = c.of-rows.result in
    let known = known_rows g (goal.at.returns g c).After-of-rows in
    let output = output-is (wanted_of c.args.options.now) text c.utf8.text known.whole rows known.are c.limit_of-limit.result c.limit_of-limit.ensures c.as_slice-colors.result.now c.as_slice-colors.ensures.value in
    record {
      answers = answered (wanted_of c.args.options.now) text c.utf8.text known.whole rows known.are c.limit_of-limit.result c.limit_of-limit.ensures c.write_buffered_rows.result c.answer.result c.answer.ensures c.write_buffered_rows.ensures.fits c.write_buffered_rows.ensures.refused;
      written = is-written g.W.Write.contents (output_of (wanted_of c.args.options.now) text) c.args.writer.now c.write_buffered_rows.new.writer (compact_of c.args.options.now.style) c.limit_of-limit.result (row_texts_of rows) c.write_buffered_rows.result c.answer.result c.answer.ensures
          (subst (λ text. Passes g.W.Write.contents text c.write_buffered_rows.result [] c.args.writer.now c.write_buffered_rows.new.writer) output c.write_buffered_rows.ensures.table) c.write_buffered_rows.ensures.alone c.write_buffered_rows.ensures.refused;
      alone = left-alone (wanted_of c.args.options.now) text c.utf8.text known.whole rows known.are c.limit_of-limit.result c.limit_of-limit.ensures c.args.writer.now c.write_buffered_rows.new.writer c.write_buffered_rows.ensures.alone
          (λ none. passes-nothing g.W.Write.contents (colored_text (compact_of c.args.options.now.style) c.limit_of-limit.result (cell_color c.as_slice-colors.result.now) (row_texts_of rows)) [] c.write_buffered_rows.result c.args.writer.now c.write_buffered_rows.new.writer c.write_buffered_rows.ensures.table (ap length output ∙ none));
      faults = is-of-table c.write_buffered_rows.result c.answer.result c.answer.ensures;
    }
