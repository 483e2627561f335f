-- A text without ESC that is one line is all of that line.
use Rattle.std.proofs.Common.{◌≡◌, ℕ, List, false, subst, sym, ◌∙◌, arith}
use Rattle.std.specs.Cow.{cow_str_bytes}
use Rattle.ansi_str.specs.StyledText.{has_escape}
use Rattle.grid_records_traits.specs.Cells.{HasLineCount, HasWidth}
use Rattle.papergrid_cells.proofs.PlainLines.{plain-line}
use Rattle.columns_table.proofs.resized_cell.ResizedCellCell.single_line.Goals as goal

pub returns-clause-single_line : goal.returns-clause-single_line
returns-clause-single_line c =
    let cell = c.args.self.now in
    let text = c.text-text.result.now in
    let same : cow_str_bytes cell.text ≡ text = sym c.text-text.ensures in
    let one : cell.lines ≡ 1 = omega (arith, c.if-self-ne1.false) in
    let counted : HasLineCount text 1 = subst (λ (t : List ℕ). HasLineCount t 1) same (subst (λ (n : ℕ). HasLineCount (cow_str_bytes cell.text) n) one cell.measured.0) in
    let wide : HasWidth text cell.width = subst (λ (t : List ℕ). HasWidth t cell.width) same cell.measured.1 in
    let bare : has_escape text ≡ false = sym c.ansi_has_any.ensures ∙ c.if-ansi_has_any.false in
    (counted, wide, plain-line text bare counted)
