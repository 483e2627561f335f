-- What is written below the header, and what comes of a refusal.
use Rattle.std.proofs.Common.{◌∙◌, ◌++◌}
use Rattle.basinmug_run.specs.Picture.TableRows.{state_of}
use Rattle.tabled.specs.Writing.{chosen_lines}
use Rattle.tabled_output.specs.Building.{writing_fault}
use Rattle.tabled_output.specs.declared.building.BuildFault.TheVariants.{Table as OfTable}
use Rattle.tabled_output.specs.Counts.{inner_of}
use Rattle.basinmug_run.specs.Picture.Documents.{is_of, header_delimiters}
use Rattle.basinmug_run.specs.Picture.Printed.{IsLate}
use Rattle.basinmug_run.specs.declared.picture.documents.DocumentPart.TheVariants.{Records}
use Rattle.basinmug_run.proofs.PictureLemmas.Behind.{all-behind, front-behind-first, front-of-more, no-front, passed-whole, stopped-before}
use Rattle.basinmug_run.proofs.PictureLemmas.Built.{passed-then, piece-refused}
use Rattle.basinmug_run.proofs.PictureLemmas.Fitted.{late-told, late-writing}
use Rattle.basinmug_run.proofs.PictureLemmas.Narrowed.{err-told}
use Rattle.basinmug_run.proofs.picture.documents.write_below_header.Goals as goal

pub returns-in_err-row-clause-front : goal.returns-in_err-row-clause-front
returns-in_err-row-clause-front g c = no-front (g.W.Write.contents (inner_of c.args.writer.now)) _

pub returns-in_err-row-clause-late : goal.returns-in_err-row-clause-late
returns-in_err-row-clause-late g c = err-told c.from_residual.result (OfTable c.in_err-row.field-0.0) IsLate c.from_residual.ensures.1 c.in_err-row.ensures.refused

pub returns-in_err-write_piece-clause-front : goal.returns-in_err-write_piece-clause-front
returns-in_err-write_piece-clause-front g c =
    let s = state_of c.args.table.now in
    let stopped = c.in_err-write_piece.ensures.stopped in
    front-of-more (g.W.Write.contents (inner_of c.args.writer.now)) (g.W.Write.contents (inner_of c.write_piece.new.writer)) (header_delimiters s) (chosen_lines (is_of Records) s ++ c.args.more.now)
    (stopped-before g.W.Write.contents (header_delimiters s) c.args.writer.now c.write_piece.new.writer stopped.bytes.0 stopped.bytes.1 stopped.bytes.2
    (stopped.bytes.3 ∙ c.as_bytes.ensures.value ∙ c.in_ok-row.ensures.header_delimiters))

pub returns-in_err-write_piece-clause-late : goal.returns-in_err-write_piece-clause-late
returns-in_err-write_piece-clause-late g c =
    err-told c.from_residual-in_err-write_piece.result (writing_fault c.in_err-write_piece.field-0.0) IsLate c.from_residual-in_err-write_piece.ensures.1 (late-writing c.in_err-write_piece.field-0.0)

pub returns-in_err-write_piece-clause-writer : goal.returns-in_err-write_piece-clause-writer
returns-in_err-write_piece-clause-writer g c =
    piece-refused g.W.Write.contents c.as_bytes.result.now c.args.writer.now c.write_piece.new.writer c.in_err-write_piece.field-0.0 c.from_residual-in_err-write_piece.result c.from_residual-in_err-write_piece.ensures.1 c.in_err-write_piece.ensures.stopped

pub returns-clause-whole : goal.returns-clause-whole
returns-clause-whole g c =
    let s = state_of c.args.table.now in
    let passed = c.in_ok-write_piece.ensures.passed.bytes in
    all-behind c.write_lines.result (g.W.Write.contents (inner_of c.args.writer.now)) (g.W.Write.contents (inner_of c.write_piece.new.writer)) (g.W.Write.contents (inner_of c.write_lines.new.writer))
    (header_delimiters s) (chosen_lines (is_of Records) s ++ c.args.more.now)
    (passed-whole _ _ _ passed.0 passed.1 (passed.2 ∙ c.as_bytes.ensures.value ∙ c.in_ok-row.ensures.header_delimiters)) c.write_lines.ensures.built.whole

pub returns-clause-front : goal.returns-clause-front
returns-clause-front g c =
    let s = state_of c.args.table.now in
    let passed = c.in_ok-write_piece.ensures.passed.bytes in
    front-behind-first g.W.Write.contents _ (chosen_lines (is_of Records) s ++ c.args.more.now) c.write_piece.new.writer c.write_lines.new.writer c.write_lines.result
    (g.W.Write.contents (inner_of c.args.writer.now)) (header_delimiters s)
    (passed-whole _ _ _ passed.0 passed.1 (passed.2 ∙ c.as_bytes.ensures.value ∙ c.in_ok-row.ensures.header_delimiters)) c.write_lines.ensures.built.whole c.write_lines.ensures.built.front

pub returns-clause-late : goal.returns-clause-late
returns-clause-late g c = late-told (state_of c.args.table.now) c.write_lines.result c.requires.fits c.write_lines.ensures.table.refused

pub returns-clause-writer : goal.returns-clause-writer
returns-clause-writer g c = passed-then c.args.writer.now c.write_piece.new.writer c.write_lines.new.writer g.W.Write.contents _ _ _ _ c.in_ok-write_piece.ensures.passed c.write_lines.ensures.built.writer
