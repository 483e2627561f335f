use Rattle.std.proofs.Common.{rules, ◌≡◌, ◌∙◌, false, ap, sym}
use Rattle.ansi_str.specs.StyledText.{has_escape}
use Rattle.papergrid_picture.specs.CellLines.{cell_lines, cell_measures}
use Rattle.papergrid_cells.proofs.PlainLines.{cell_lines-plain, cell_measures-plain}
use Rattle.papergrid_cells.proofs.cell_lines.reading.read_text.Goals as goal

pub returns-clause-lines : goal.returns-clause-lines
returns-clause-lines c =
    let plain : has_escape c.args.text.now ≡ false = search rules in
    c.new.ensures.texts ∙ (c.in_ok-lines.ensures.texts
    ∙ (cell_lines-plain c.args.text.now plain c.args.trim_horizontal
    ∙ ap (λ v. cell_lines c.args.trim_horizontal v c.args.text.now) (sym c.if-trim_vertical.false)))

pub returns-clause-measures : goal.returns-clause-measures
returns-clause-measures c =
    let plain : has_escape c.args.text.now ≡ false = search rules in
    c.new.ensures.measures ∙ (c.in_ok-lines.ensures.measures
    ∙ (cell_measures-plain c.args.text.now plain c.args.trim_horizontal
    ∙ ap (λ v. cell_measures c.args.trim_horizontal v c.args.text.now) (sym c.if-trim_vertical.false)))
