use Rattle.ansi_scan.specs.Pieces.{pieces}
use Rattle.ansi_scan.proofs.Existence.{ArePiecesOf-pieces}
use Rattle.std.specs.Cow.{cow_str_bytes}
use Rattle.std.specs.String.{string_bytes}
use Rattle.grid_records_measure.specs.TextLines.{text_width}
use Rattle.grid_records.specs.RecordRows.Laws.Truncating.{cut_is_left, fits_whole, is_wider, whole_text}
use Rattle.grid_records.proofs.rows.records.into_records.truncate_content.truncate.Goals as goal

pub returns-then-width-clause-ok : goal.returns-then-width-clause-ok
unfolding text_width
returns-then-width-clause-ok g c =
    let text = g.C.Cell.text c.args.cell in
    whole_text c.args.width c.width.result text (c.width.ensures (pieces text) (ArePiecesOf-pieces text)) c.if-width.true

pub returns-clause-ok : goal.returns-clause-ok
unfolding text_width
returns-clause-ok g c =
    let text = g.C.Cell.text c.args.cell in
    cut_is_left c.args.width c.width.result text c.text.result.now (cow_str_bytes c.in_ok-cut_width.field-0) (string_bytes c.in_ok-cut.cut)
    (c.width.ensures (pieces text) (ArePiecesOf-pieces text)) c.if-width.false c.text.ensures c.in_ok-cut_width.ensures.text c.in_ok-cut.ensures.ok

pub returns-in_err-cut_width-clause-refused : goal.returns-in_err-cut_width-clause-refused
unfolding text_width
returns-in_err-cut_width-clause-refused g c =
    let text = g.C.Cell.text c.args.cell in
    is_wider c.from_residual.result c.args.width c.width.result text (c.width.ensures (pieces text) (ArePiecesOf-pieces text)) c.if-width.false

pub returns-in_err-cut-clause-refused : goal.returns-in_err-cut-clause-refused
unfolding text_width
returns-in_err-cut-clause-refused g c =
    let text = g.C.Cell.text c.args.cell in
    is_wider c.from_residual-in_err-cut.result c.args.width c.width.result text (c.width.ensures (pieces text) (ArePiecesOf-pieces text)) c.if-width.false

pub returns-clause-whole : goal.returns-clause-whole
unfolding text_width
returns-clause-whole g c =
    let text = g.C.Cell.text c.args.cell in
    fits_whole g.C.Cell.text c.args.width c.width.result c.args.cell _ (c.width.ensures (pieces text) (ArePiecesOf-pieces text)) c.if-width.false

pub returns-in_err-cut_width-clause-whole : goal.returns-in_err-cut_width-clause-whole
unfolding text_width
returns-in_err-cut_width-clause-whole g c =
    let text = g.C.Cell.text c.args.cell in
    fits_whole g.C.Cell.text c.args.width c.width.result c.args.cell _ (c.width.ensures (pieces text) (ArePiecesOf-pieces text)) c.if-width.false

pub returns-in_err-cut-clause-whole : goal.returns-in_err-cut-clause-whole
unfolding text_width
returns-in_err-cut-clause-whole g c =
    let text = g.C.Cell.text c.args.cell in
    fits_whole g.C.Cell.text c.args.width c.width.result c.args.cell _ (c.width.ensures (pieces text) (ArePiecesOf-pieces text)) c.if-width.false
