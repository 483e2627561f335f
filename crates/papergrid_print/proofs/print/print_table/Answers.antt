use Rattle.std.proofs.Common.{◌++◌, ap, append-nil, string_bytes, sym, ◌∙◌}
use Rattle.papergrid_print.specs.Sheets.{first_lines_text, sheet_of}
use Rattle.papergrid_print.proofs.Writes.{printable-with-lines}
use Rattle.papergrid_print.proofs.print.print_table.Goals as goal

pub returns-then-not-has_lines-clause-text : goal.returns-then-not-has_lines-clause-text
returns-then-not-has_lines-clause-text g c =
    let S = sheet_of c.args.cfg.now (g.R.RecordTexts.rows c.args.records.now) (g.C.Colors.color c.args.colors.now) c.args.widths.now c.args.heights.now in
    let out = string_bytes c.args.out.now in
    sym (append-nil out) ∙ ap (λ n. out ++ first_lines_text S n) (sym (c.has_lines.ensures.none c.if-not-has_lines.true))

pub invariant_of-printer : goal.invariant_of-printer
invariant_of-printer g c =
    let S = sheet_of c.args.cfg.now (g.R.RecordTexts.rows c.args.records.now) (g.C.Colors.color c.args.colors.now) c.args.widths.now c.args.heights.now in
    record { printable = printable-with-lines S c.requires.good c.requires.range (c.has_lines.ensures.some c.if-not-has_lines.false) }

pub invariant_of-printer-2 : goal.invariant_of-printer-2
invariant_of-printer-2 g c =
    let S = sheet_of c.args.cfg.now (g.R.RecordTexts.rows c.args.records.now) (g.C.Colors.color c.args.colors.now) c.args.widths.now c.args.heights.now in
    record { printable = printable-with-lines S c.requires.good c.requires.range (c.has_lines.ensures.some c.if-not-has_lines.false) }
