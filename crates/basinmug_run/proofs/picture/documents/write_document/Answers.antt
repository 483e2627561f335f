-- A header, and what is written below it.
use Rattle.std.proofs.Common.{inr}
use Rattle.basinmug_run.specs.Picture.TableRows.{state_of}
use Rattle.tabled.specs.Writing.{chosen_lines}
use Rattle.tabled_output.specs.Counts.{inner_of}
use Rattle.basinmug_run.specs.Picture.Documents.{below_header, is_of}
use Rattle.basinmug_run.specs.declared.picture.documents.DocumentPart.TheVariants.{Header}
use Rattle.basinmug_run.proofs.PictureLemmas.Behind.{all-behind, front-behind-whole}
use Rattle.basinmug_run.proofs.PictureLemmas.Built.{built-so-far, built-then, refused-so}
use Rattle.basinmug_run.proofs.PictureLemmas.Fitted.{refused-late}
use Rattle.basinmug_run.proofs.PictureLemmas.Narrowed.{on-err, on-ok}
use Rattle.basinmug_run.proofs.picture.documents.write_document.Goals as goal

pub returns-in_err-build_lines-clause-built : goal.returns-in_err-build_lines-clause-built
returns-in_err-build_lines-clause-built g c =
    let s = state_of c.args.table.now in
    built-so-far g.W.Write.contents s (chosen_lines (is_of Header) s) (below_header c.args.more.now s) c.in_err-build_lines.field-0.0 c.from_residual.result c.args.writer.now c.build_lines.new.writer c.from_residual.ensures.1 c.in_err-build_lines.ensures.built

pub returns-in_err-build_lines-clause-table : goal.returns-in_err-build_lines-clause-table
returns-in_err-build_lines-clause-table g c = refused-so (state_of c.args.table.now) c.in_err-build_lines.field-0.0 c.from_residual.result c.from_residual.ensures.1 c.in_err-build_lines.ensures.table

pub returns-clause-built : goal.returns-clause-built
returns-clause-built g c =
    let s = state_of c.args.table.now in
    let first = c.in_ok-build_lines.ensures.built in
    let result = c.write_below_header.result in
    let a = c.args.writer.now in
    let b = c.build_lines.new.writer in
    let d = c.write_below_header.new.writer in
    let old = g.W.Write.contents (inner_of a) in
    let mid = g.W.Write.contents (inner_of b) in
    let new = g.W.Write.contents (inner_of d) in
    let header = chosen_lines (is_of Header) s in
    let more = below_header c.args.more.now s in
    record {
      whole = all-behind result old mid new header more first.whole c.write_below_header.ensures.whole;
      front = on-err result _ (inr (c.in_ok-build_lines.ensures.table.fits, front-behind-whole old mid new header more first.whole c.write_below_header.ensures.front));
      writer = built-then a b d _ _ _ first.writer c.write_below_header.ensures.writer;
    }

pub returns-clause-table : goal.returns-clause-table
returns-clause-table g c =
    let fits = c.in_ok-build_lines.ensures.table.fits in
    record {
      fits = on-ok c.write_below_header.result _ fits;
      refused = refused-late (state_of c.args.table.now) c.write_below_header.result fits c.write_below_header.ensures.late;
    }
