use Rattle.std.proofs.Common.{[], subst, sym}
use Rattle.papergrid_print.specs.Ended.{written_lines}
use Rattle.papergrid_print.specs.Sheets.{sheet_of}
use Rattle.tabled_output.specs.Pieces.{HasPassed}
use Rattle.tabled_output.proofs.WrittenPieces.{passed-none, passes-none}
use Rattle.papergrid_print.proofs.Writes.{no-lines, printable-with-lines}
use Rattle.papergrid_print.proofs.print.write_all.Goals as goal

pub returns-then-not-has_lines : goal.returns-then-not-has_lines
returns-then-not-has_lines g c =
    let S = sheet_of c.args.cfg.now (g.R.RecordTexts.rows c.args.records.now) (g.C.Colors.color c.args.colors.now) c.args.widths.now c.args.heights.now in
    let K = g.W.Write.contents in
    subst (λ text. HasPassed K text [] c.args.writer.now c.args.writer.now) (sym (no-lines S c.args.ended (c.has_lines.ensures.none c.if-not-has_lines.true))) (passed-none K [] c.args.writer.now)

pub invariant_of-printer : goal.invariant_of-printer
invariant_of-printer g c =
    let S = sheet_of c.args.cfg.now (g.R.RecordTexts.rows c.args.records.now) (g.C.Colors.color c.args.colors.now) c.args.widths.now c.args.heights.now in
    record { printable = printable-with-lines S c.requires.good c.requires.range (c.has_lines.ensures.some c.if-not-has_lines.false) }

pub line_buffer-requires : goal.line_buffer-requires
line_buffer-requires g c = record { some = c.has_lines.ensures.some c.if-not-has_lines.false }

pub returns-in_err-buffer : goal.returns-in_err-buffer
returns-in_err-buffer g c =
    let S = sheet_of c.args.cfg.now (g.R.RecordTexts.rows c.args.records.now) (g.C.Colors.color c.args.colors.now) c.args.widths.now c.args.heights.now in
    passes-none g.W.Write.contents (written_lines S c.args.ended) [] c.from_residual.result c.args.writer.now c.from_residual.ensures.0

pub returns-in_err-lines : goal.returns-in_err-lines
returns-in_err-lines g c =
    let S = sheet_of c.args.cfg.now (g.R.RecordTexts.rows c.args.records.now) (g.C.Colors.color c.args.colors.now) c.args.widths.now c.args.heights.now in
    passes-none g.W.Write.contents (written_lines S c.args.ended) [] c.from_residual-in_err-lines.result c.args.writer.now c.from_residual-in_err-lines.ensures.0

pub returns-in_err-reserve : goal.returns-in_err-reserve
returns-in_err-reserve g c =
    let S = sheet_of c.args.cfg.now (g.R.RecordTexts.rows c.args.records.now) (g.C.Colors.color c.args.colors.now) c.args.widths.now c.args.heights.now in
    passes-none g.W.Write.contents (written_lines S c.args.ended) [] c.from_residual-in_err-reserve.result c.args.writer.now c.from_residual-in_err-reserve.ensures.0
