use Rattle.std.proofs.Common.{◌∙◌, ap}
use Rattle.ansi_scan.specs.Pieces.{pieces}
use Rattle.ansi_scan.proofs.Existence.{ArePiecesOf-pieces}
use Rattle.ansi_str.specs.StyledText.{has_escape}
use Rattle.ansi_str_search.proofs.TextLemmas.Stripping.{has_escape-strip}
use Rattle.papergrid_cells.proofs.KeptLines.{are_read, enough_lines, measures_kept, texts_kept}
use Rattle.papergrid_cells.proofs.cell_lines.reading.read_shown.Goals as goal

pub shown_lines-requires : goal.shown_lines-requires
shown_lines-requires c =
    let text = c.args.text.now in
    ap has_escape (c.deref.ensures.value ∙ c.in_ok-stripped.ensures.strips (pieces text) (ArePiecesOf-pieces text)) ∙ has_escape-strip text (pieces text) (ArePiecesOf-pieces text)

pub take_lines-requires : goal.take_lines-requires
take_lines-requires c =
    enough_lines c.args.trim_horizontal c.args.trim_vertical c.args.text.now c.deref-3.result.now c.kept_lines-first.result c.pass_lines.new.lines.parts
    (are_read c.args.trim_horizontal c.args.trim_vertical c.args.text.now c.kept_lines-first.result
    (c.deref.ensures.value ∙ c.in_ok-stripped.ensures.strips (pieces c.args.text.now) (ArePiecesOf-pieces c.args.text.now)) c.in_ok-shown.ensures c.deref-2.ensures.value c.deref-3.ensures.value
    c.kept_lines-first.ensures.kept c.kept_lines-first.ensures.within
    (c.get_lines-lines.ensures.lines (pieces c.args.text.now) (ArePiecesOf-pieces c.args.text.now)) c.in_ok-pass_lines.ensures)

pub returns-clause-lines : goal.returns-clause-lines
returns-clause-lines c =
    c.new.ensures.texts
    ∙ (c.in_ok-take_lines.ensures.texts
    ∙ texts_kept c.args.trim_horizontal c.args.trim_vertical c.args.text.now c.deref-3.result.now c.kept_lines-first.result c.pass_lines.new.lines.parts
    (are_read c.args.trim_horizontal c.args.trim_vertical c.args.text.now c.kept_lines-first.result
    (c.deref.ensures.value ∙ c.in_ok-stripped.ensures.strips (pieces c.args.text.now) (ArePiecesOf-pieces c.args.text.now)) c.in_ok-shown.ensures c.deref-2.ensures.value c.deref-3.ensures.value
    c.kept_lines-first.ensures.kept c.kept_lines-first.ensures.within
    (c.get_lines-lines.ensures.lines (pieces c.args.text.now) (ArePiecesOf-pieces c.args.text.now)) c.in_ok-pass_lines.ensures))

pub returns-clause-measures : goal.returns-clause-measures
returns-clause-measures c =
    c.new.ensures.measures
    ∙ (c.in_ok-take_lines.ensures.measures
    ∙ measures_kept c.args.trim_horizontal c.args.trim_vertical c.args.text.now c.deref-3.result.now c.kept_lines-first.result c.pass_lines.new.lines.parts
    (are_read c.args.trim_horizontal c.args.trim_vertical c.args.text.now c.kept_lines-first.result
    (c.deref.ensures.value ∙ c.in_ok-stripped.ensures.strips (pieces c.args.text.now) (ArePiecesOf-pieces c.args.text.now)) c.in_ok-shown.ensures c.deref-2.ensures.value c.deref-3.ensures.value
    c.kept_lines-first.ensures.kept c.kept_lines-first.ensures.within
    (c.get_lines-lines.ensures.lines (pieces c.args.text.now) (ArePiecesOf-pieces c.args.text.now)) c.in_ok-pass_lines.ensures))
