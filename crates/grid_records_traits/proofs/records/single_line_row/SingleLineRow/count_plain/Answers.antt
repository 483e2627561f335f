use Rattle.std.proofs.Common.{[], length, eqb-true, subst, sym, arith}
use Rattle.std.specs.Prelude.{slice_index_or}
use Rattle.grid_records_traits.specs.SingleLineTexts.{single_line_texts}
use Rattle.grid_records_traits.specs.SingleLines.{IsSingleLine}
use Rattle.grid_records_traits.proofs.Starts.{length-texts_at, none-given}
use Rattle.grid_records_traits.proofs.records.single_line_row.SingleLineRow.count_plain.Goals as goal

pub returns-then-is_empty-clause-count : goal.returns-then-is_empty-clause-count
returns-then-is_empty-clause-count c =
    rw (← c.if-is_empty.ensures) omega (arith, c.saturating_sub.ensures, length-texts_at c.args.self.now.text.now c.args.self.now.starts.now)

pub returns-then-is_empty-clause-plain : goal.returns-then-is_empty-clause-plain
returns-then-is_empty-clause-plain c = λ column below.
    let row = c.args.self.now in
    let text = slice_index_or (single_line_texts row) column [] in
    subst (IsSingleLine text) (none-given row.widths.now column (length text) (eqb-true (length row.widths.now) 0 (sym c.if-is_empty.ensures))) (row.single_lines column)
