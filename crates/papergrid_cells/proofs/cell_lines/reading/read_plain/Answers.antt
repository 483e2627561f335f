-- The lines that are kept, of a text that is what it shows.
use Rattle.std.proofs.Common.{◌∙◌, ap, drop}
use Rattle.grid_records_measure.specs.RawLines.{lines_behind}
use Rattle.grid_records_measure.proofs.TextLines.{text_lines-are}
use Rattle.papergrid_cells.proofs.KeptLines.{are_read, enough_lines, measures_kept, texts_kept}
use Rattle.papergrid_cells.proofs.PlainLines.{itself-plain, same-plain}
use Rattle.papergrid_cells.proofs.cell_lines.reading.read_plain.Goals as goal

pub plain_lines-requires-clause-enough : goal.plain_lines-requires-clause-enough
plain_lines-requires-clause-enough c =
    let text = c.args.text.now in
    let parts = lines_behind c.behind_lines-lines.result in
    enough_lines c.args.trim_horizontal c.args.trim_vertical text c.deref-2.result.now c.kept_lines-passed.result parts
    (are_read c.args.trim_horizontal c.args.trim_vertical text c.kept_lines-passed.result
    (itself-plain text c.requires) c.in_ok-shown.ensures c.deref.ensures.value c.deref-2.ensures.value
    c.kept_lines-passed.ensures.kept c.kept_lines-passed.ensures.within (text_lines-are text)
    (c.behind_lines-lines.ensures.left ∙ ap (drop c.kept_lines-passed.result.0) (same-plain text c.requires)))

pub returns-clause-lines : goal.returns-clause-lines
returns-clause-lines c =
    let text = c.args.text.now in
    let parts = lines_behind c.behind_lines-lines.result in
    c.new.ensures.texts
    ∙ (c.in_ok-plain_lines.ensures.texts
    ∙ texts_kept c.args.trim_horizontal c.args.trim_vertical text c.deref-2.result.now c.kept_lines-passed.result parts
    (are_read c.args.trim_horizontal c.args.trim_vertical text c.kept_lines-passed.result
    (itself-plain text c.requires) c.in_ok-shown.ensures c.deref.ensures.value c.deref-2.ensures.value
    c.kept_lines-passed.ensures.kept c.kept_lines-passed.ensures.within (text_lines-are text)
    (c.behind_lines-lines.ensures.left ∙ ap (drop c.kept_lines-passed.result.0) (same-plain text c.requires))))

pub returns-clause-measures : goal.returns-clause-measures
returns-clause-measures c =
    let text = c.args.text.now in
    let parts = lines_behind c.behind_lines-lines.result in
    c.new.ensures.measures
    ∙ (c.in_ok-plain_lines.ensures.measures
    ∙ measures_kept c.args.trim_horizontal c.args.trim_vertical text c.deref-2.result.now c.kept_lines-passed.result parts
    (are_read c.args.trim_horizontal c.args.trim_vertical text c.kept_lines-passed.result
    (itself-plain text c.requires) c.in_ok-shown.ensures c.deref.ensures.value c.deref-2.ensures.value
    c.kept_lines-passed.ensures.kept c.kept_lines-passed.ensures.within (text_lines-are text)
    (c.behind_lines-lines.ensures.left ∙ ap (drop c.kept_lines-passed.result.0) (same-plain text c.requires))))
