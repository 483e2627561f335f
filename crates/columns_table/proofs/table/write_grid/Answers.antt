use Rattle.std.proofs.Common.{◌≢◌, [], Ok, arith, subst}
use Rattle.std.specs.declared.alloc.AllocError.{AllocError}
use Rattle.columns_asked.specs.Colors.ColumnColors.{cell_color}
use Rattle.grid_config_values.specs.declared.fault.Fault.{Fault}
use Rattle.tabled_output.specs.Pieces.{HasBegun, Passes}
use Rattle.tabled_output.proofs.WrittenPieces.{passes-answered, passes-refused}
use Rattle.columns_table.specs.Listed.{text_in}
use Rattle.columns_table.proofs.Listed.{listed-ended, listed-good, listed-range}
use Rattle.columns_table.proofs.table.write_grid.Goals as goal

pub write_lines-requires-clause-good : goal.write_lines-requires-clause-good
write_lines-requires-clause-good g c =
    let some : c.args.sizes.whole_height ≢ 0 = λ none. omega (arith, none, c.if-sizes-eq0.false) in
    listed-good c.args.settings.now (g.R.RecordColumns.columns c.args.records.now) (g.R.RecordTexts.rows c.args.records.now) c.args.sizes c.as_slice-widths.result.now c.as_slice-heights.result.now c.as_slice-widths.ensures.value c.as_slice-heights.ensures.value
    (c.requires.listed some) (c.requires.fits some)

pub write_lines-requires-clause-range : goal.write_lines-requires-clause-range
write_lines-requires-clause-range g c =
    let some : c.args.sizes.whole_height ≢ 0 = λ none. omega (arith, none, c.if-sizes-eq0.false) in
    listed-range c.args.settings.now (g.R.RecordColumns.columns c.args.records.now) (g.R.RecordTexts.rows c.args.records.now) c.args.sizes c.as_slice-widths.result.now c.as_slice-heights.result.now c.as_slice-widths.ensures.value c.as_slice-heights.ensures.value
    (c.requires.listed some) (c.requires.fits some)

pub returns-in_err-written-clause-text : goal.returns-in_err-written-clause-text
returns-in_err-written-clause-text g c =
    let K = g.W.Write.contents in
    let some : c.args.sizes.whole_height ≢ 0 = λ none. omega (arith, none, c.if-sizes-eq0.false) in
    let is = listed-ended c.args.settings.now (g.R.RecordColumns.columns c.args.records.now) (g.R.RecordTexts.rows c.args.records.now) c.args.sizes c.as_slice-widths.result.now c.as_slice-heights.result.now c.as_slice-widths.ensures.value c.as_slice-heights.ensures.value
    (c.requires.listed some) (cell_color c.args.colors.now) some c.requires.lines in
    passes-refused K (text_in c.args.sizes c.args.settings.now (cell_color c.args.colors.now) (g.R.RecordColumns.columns c.args.records.now) (g.R.RecordTexts.rows c.args.records.now)) [] c.from_residual.result c.args.writer.now c.write_lines.new.writer c.from_residual.ensures.0
    (subst (λ text. HasBegun K text c.args.writer.now c.write_lines.new.writer) is c.in_err-written.ensures)

pub returns-clause-text : goal.returns-clause-text
returns-clause-text g c =
    let K = g.W.Write.contents in
    let some : c.args.sizes.whole_height ≢ 0 = λ none. omega (arith, none, c.if-sizes-eq0.false) in
    let is = listed-ended c.args.settings.now (g.R.RecordColumns.columns c.args.records.now) (g.R.RecordTexts.rows c.args.records.now) c.args.sizes c.as_slice-widths.result.now c.as_slice-heights.result.now c.as_slice-widths.ensures.value c.as_slice-heights.ensures.value
    (c.requires.listed some) (cell_color c.args.colors.now) some c.requires.lines in
    passes-answered K AllocError Fault (text_in c.args.sizes c.args.settings.now (cell_color c.args.colors.now) (g.R.RecordColumns.columns c.args.records.now) (g.R.RecordTexts.rows c.args.records.now)) [] c.in_ok-written.written c.args.writer.now c.write_lines.new.writer
    (subst (λ text. Passes {E = AllocError} K text (Ok c.in_ok-written.written) [] c.args.writer.now c.write_lines.new.writer) is c.in_ok-written.ensures)
