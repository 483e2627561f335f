-- What is known of each text of the row is known of this one.
use Rattle.std.proofs.Common.{◌≡◌, ℕ, List, length, sym, subst}
use Rattle.std.specs.Prelude.{slice_index_or}
use Rattle.grid_records_traits.specs.Cells.{HasLineCount, HasWidth, IsLineAt}
use Rattle.grid_records_traits.proofs.records.single_line_row.SingleLineRow.cell.Goals as goal

pub returns-clause-lines : goal.returns-clause-lines
returns-clause-lines c = subst (λ (text : List ℕ). HasLineCount text 1) (sym c.text_at-text.ensures) (c.args.self.now.single_lines c.args.column).0

pub returns-clause-width : goal.returns-clause-width
returns-clause-width c =
    let row = c.args.self.now in
    let text = c.text_at-text.result.now in
    let width : c.width_at.result ≡ slice_index_or row.widths.now c.args.column (length text) = c.width_at.ensures in
    subst (λ (columns : ℕ). HasWidth text columns) (sym width)
    (subst (λ (text : List ℕ). HasWidth text (slice_index_or row.widths.now c.args.column (length text))) (sym c.text_at-text.ensures) (row.single_lines c.args.column).1)

pub returns-clause-line : goal.returns-clause-line
returns-clause-line c = subst (λ (text : List ℕ). IsLineAt text 0 text) (sym c.text_at-text.ensures) (c.args.self.now.single_lines c.args.column).2
