-- What is printed of a table, and what comes of a refusal.
use Rattle.std.proofs.Common.{inl, refl}
use Rattle.basinmug_run.specs.Picture.TableRows.{state_of}
use Rattle.tabled_output.specs.Counts.{inner_of}
use Rattle.basinmug_run.specs.Picture.Faults.{of_build, of_table}
use Rattle.basinmug_run.specs.Picture.Lines.{picture_text}
use Rattle.basinmug_run.specs.Picture.Pictures.{IsMade, IsNotMade}
use Rattle.basinmug_run.proofs.PictureLemmas.Faults.{no-table, nothing-written, refusal-by}
use Rattle.basinmug_run.proofs.PictureLemmas.Fitted.{left-alone}
use Rattle.basinmug_run.proofs.PictureLemmas.Narrowed.{err-told, on-err}
use Rattle.basinmug_run.proofs.PictureLemmas.TablePrinted.{begins-table}
use Rattle.basinmug_run.proofs.PictureLemmas.Written.{table-refused, writer-told}
use Rattle.basinmug_run.proofs.picture.printing.print_table.Goals as goal

pub returns-in_err-wider-clause-front : goal.returns-in_err-wider-clause-front
returns-in_err-wider-clause-front g c = on-err c.from_residual.result _ (inl refl)

pub returns-in_err-wider-clause-refused : goal.returns-in_err-wider-clause-refused
returns-in_err-wider-clause-refused g c =
    let options = c.args.options.now in
    let it = c.args.appearance.now in
    let old = state_of c.args.table.now in
    err-told c.from_residual.result (of_table c.in_err-wider.field-0.0) _ c.from_residual.ensures.1
    (no-table (IsMade options it.settings.items it.needs.items old) (IsNotMade options it.settings.items it.needs.items old) c.in_err-wider.field-0.0 c.in_err-wider.ensures.refused)

pub returns-in_err-wider-clause-writer : goal.returns-in_err-wider-clause-writer
returns-in_err-wider-clause-writer g c = table-refused c.args.writer.now c.in_err-wider.field-0.0 c.from_residual.result c.from_residual.ensures.1

pub returns-in_err-write_picture-clause-front : goal.returns-in_err-write_picture-clause-front
returns-in_err-write_picture-clause-front g c =
    let options = c.args.options.now in
    let it = c.args.appearance.now in
    let lines = c.args.lines.now in
    on-err c.from_residual-in_err-write_picture.result _
    (begins-table (IsMade options it.settings.items it.needs.items (state_of c.args.table.now)) (picture_text options.line_style lines.rules lines.header lines.rows c.args.more.now)
    (state_of c.make_table.new.table) _ (g.W.Write.contents (inner_of c.args.writer.now)) (g.W.Write.contents (inner_of c.write_picture.new.writer)) c.in_ok-wider.ensures.made c.in_err-write_picture.ensures.built.front)

pub returns-in_err-write_picture-clause-untouched : goal.returns-in_err-write_picture-clause-untouched
returns-in_err-write_picture-clause-untouched g c =
    err-told c.from_residual-in_err-write_picture.result (of_build c.in_err-write_picture.field-0.0) _ c.from_residual-in_err-write_picture.ensures.1
    (λ none. left-alone (state_of c.make_table.new.table) c.in_err-write_picture.field-0.0 _ _ c.in_err-write_picture.ensures.table.refused c.in_err-write_picture.ensures.built.front
    (nothing-written c.in_err-write_picture.field-0.0 none))

pub returns-in_err-write_picture-clause-refused : goal.returns-in_err-write_picture-clause-refused
returns-in_err-write_picture-clause-refused g c =
    let options = c.args.options.now in
    let it = c.args.appearance.now in
    let old = state_of c.args.table.now in
    err-told c.from_residual-in_err-write_picture.result (of_build c.in_err-write_picture.field-0.0) _ c.from_residual-in_err-write_picture.ensures.1
    (refusal-by (IsMade options it.settings.items it.needs.items old) (IsNotMade options it.settings.items it.needs.items old) (state_of c.make_table.new.table) c.in_err-write_picture.field-0.0
    c.in_ok-wider.ensures.made c.in_err-write_picture.ensures.table.refused)

pub returns-in_err-write_picture-clause-writer : goal.returns-in_err-write_picture-clause-writer
returns-in_err-write_picture-clause-writer g c =
    writer-told c.args.writer.now c.write_picture.new.writer c.in_err-write_picture.field-0.0 c.from_residual-in_err-write_picture.result c.write_picture.result c.from_residual-in_err-write_picture.ensures.1 c.in_err-write_picture.was c.write_picture.ensures.built.writer

pub returns-clause-printed : goal.returns-clause-printed
returns-clause-printed g c = (
  state_of c.make_table.new.table,
  c.in_ok-wider.ensures.made,
  c.in_ok-write_picture.ensures.table.fits,
  c.in_ok-wider.ensures.wider,
  c.in_ok-write_picture.ensures.built.whole,
)
