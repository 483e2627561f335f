-- The text of the records that are shown, and what comes of a refusal.
use Rattle.std.proofs.Common.{◌≡◌, ap, inr, refl, subst, List, ℕ, map}
use Rattle.std.specs.Io.KnownBytes.{Appends}
use Rattle.tabled_output.specs.Counts.{inner_of}
use Rattle.tabled_output.specs.Streams.{AppendsFront}
use Rattle.basinmug_cells.specs.Views.{row_texts, view_rows}
use Rattle.basinmug_expanded.proofs.Parts.{written-front, written-late, written-until, written-whole}
use Rattle.basinmug_run.specs.Picture.Faults.{of_build}
use Rattle.basinmug_run.proofs.PictureLemmas.Narrowed.{err-told, on-err}
use Rattle.basinmug_run.proofs.PictureLemmas.Written.{writer-told}
use Rattle.basinmug_run.proofs.OfRecords.{accepted-so, late-records, late-so, no-nothing, refused-so, same-text}
use Rattle.basinmug_run.proofs.records.print_shown.Goals as goal

pub returns-in_err-write_records-clause-front : goal.returns-in_err-write_records-clause-front
returns-in_err-write_records-clause-front g c =
    let options = c.args.options.now in
    let rows = c.args.rows.rows in
    let texts = view_rows c.view-texts.result in
    let given : texts ≡ rows = c.view-texts.ensures in
    let same = same-text options c.args.shown rows texts given (row_texts c.header_of-header.result) (view_rows c.records_of-records.result) c.header_of-header.ensures c.records_of-records.ensures in
    let old = g.W.Write.contents (inner_of c.args.writer.now) in
    let new = g.W.Write.contents (inner_of c.write_records.new.writer) in
    let front = refused-so c.write_records.result c.in_err-write_records.field-0.0 _ c.in_err-write_records.was (written-front g.W.Write.contents _ c.args.writer.now c.write_records.new.writer c.write_records.result c.write_records.ensures) in
    on-err c.from_residual.result _ (inr (subst (λ (text : List ℕ). AppendsFront old new text) same front))

pub returns-in_err-write_records-clause-untouched : goal.returns-in_err-write_records-clause-untouched
returns-in_err-write_records-clause-untouched g c =
    let fault = c.in_err-write_records.field-0.0 in
    err-told c.from_residual.result (of_build fault) _ c.from_residual.ensures.1
    (λ none. absurd (no-nothing fault (late-so c.write_records.result fault c.in_err-write_records.was (written-late g.W.Write.contents _ c.args.writer.now c.write_records.new.writer c.write_records.result c.write_records.ensures)) none))

pub returns-in_err-write_records-clause-refused : goal.returns-in_err-write_records-clause-refused
returns-in_err-write_records-clause-refused g c =
    let fault = c.in_err-write_records.field-0.0 in
    err-told c.from_residual.result (of_build fault) _ c.from_residual.ensures.1
    (late-records fault (late-so c.write_records.result fault c.in_err-write_records.was (written-late g.W.Write.contents _ c.args.writer.now c.write_records.new.writer c.write_records.result c.write_records.ensures)))

pub returns-in_err-write_records-clause-writer : goal.returns-in_err-write_records-clause-writer
returns-in_err-write_records-clause-writer g c =
    writer-told c.args.writer.now c.write_records.new.writer c.in_err-write_records.field-0.0 c.from_residual.result c.write_records.result c.from_residual.ensures.1 c.in_err-write_records.was
    (written-until g.W.Write.contents _ c.args.writer.now c.write_records.new.writer c.write_records.result c.write_records.ensures)

pub returns-clause-printed : goal.returns-clause-printed
returns-clause-printed g c =
    let options = c.args.options.now in
    let rows = c.args.rows.rows in
    let texts = view_rows c.view-texts.result in
    let given : texts ≡ rows = c.view-texts.ensures in
    let same = same-text options c.args.shown rows texts given (row_texts c.header_of-header.result) (view_rows c.records_of-records.result) c.header_of-header.ensures c.records_of-records.ensures in
    let old = g.W.Write.contents (inner_of c.args.writer.now) in
    let new = g.W.Write.contents (inner_of c.write_records.new.writer) in
    let whole = accepted-so c.write_records.result _ _ c.in_ok-write_records.was (written-whole g.W.Write.contents _ c.args.writer.now c.write_records.new.writer c.write_records.result c.write_records.ensures) in
    (refl, subst (λ (text : List ℕ). Appends old new text) same whole)
