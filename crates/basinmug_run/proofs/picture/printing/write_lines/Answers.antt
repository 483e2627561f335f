use Rattle.std.proofs.Common.{[], List, ℕ, subst}
use Rattle.basinmug_run.specs.Picture.TableRows.{state_of}
use Rattle.tabled_output.specs.Pieces.{HasPassed, HasStopped}
use Rattle.basinmug_run.proofs.PictureLemmas.Built.{built-behind, built-in-part, built-so-far, refused-so}
use Rattle.basinmug_run.proofs.picture.printing.write_lines.Goals as goal

pub returns-in_err-build_buffered_lines-clause-built : goal.returns-in_err-build_buffered_lines-clause-built
returns-in_err-build_buffered_lines-clause-built g c =
    built-so-far g.W.Write.contents (state_of c.args.table.now) _ c.args.more.now c.in_err-build_buffered_lines.field-0.0 c.from_residual.result c.args.writer.now c.build_buffered_lines.new.writer c.from_residual.ensures.1 c.in_err-build_buffered_lines.ensures.built

pub returns-in_err-build_buffered_lines-clause-table : goal.returns-in_err-build_buffered_lines-clause-table
returns-in_err-build_buffered_lines-clause-table g c = refused-so (state_of c.args.table.now) c.in_err-build_buffered_lines.field-0.0 c.from_residual.result c.from_residual.ensures.1 c.in_err-build_buffered_lines.ensures.table

pub returns-in_err-write_piece-clause-built : goal.returns-in_err-write_piece-clause-built
returns-in_err-write_piece-clause-built g c =
    let K = g.W.Write.contents in
    let fault = c.in_err-write_piece.field-0.0 in
    built-in-part K (state_of c.args.table.now) _ c.args.more.now fault c.from_residual-in_err-write_piece.result _ c.args.writer.now c.build_buffered_lines.new.writer c.write_piece.new.writer c.from_residual-in_err-write_piece.ensures.1 c.in_ok-build_buffered_lines.ensures.table.fits c.in_ok-build_buffered_lines.ensures.built
    (subst (λ (more : List ℕ). HasStopped K more fault c.build_buffered_lines.new.writer c.write_piece.new.writer) c.as_bytes.ensures.value c.in_err-write_piece.ensures.stopped)

pub returns-clause-built : goal.returns-clause-built
returns-clause-built g c =
    let K = g.W.Write.contents in
    built-behind K (state_of c.args.table.now) _ c.args.more.now _ _ c.args.writer.now c.build_buffered_lines.new.writer c.write_piece.new.writer c.in_ok-build_buffered_lines.ensures.built
    (subst (λ (more : List ℕ). HasPassed K more [] c.build_buffered_lines.new.writer c.write_piece.new.writer) c.as_bytes.ensures.value c.in_ok-write_piece.ensures.passed)
