-- Printable ASCII is sound, and is shown as it is. So is a text whose characters are shown as they are, on one line.
use Rattle.std.proofs.Common.{◌∙◌, ℕ, List, ap, subst, sym}
use Rattle.std.specs.Prelude.{slice_range}
use Rattle.basinmug_cells.specs.Held.{with_cell}
use Rattle.grid_records_traits.specs.SingleLines.{IsSingleLine}
use Rattle.basinmug_input.specs.Parts.{are_clear}
use Rattle.basinmug_input.specs.Rows.{HasShown}
use Rattle.basinmug_input.proofs.Shown.{shown-no_controls}
use Rattle.basinmug_input.proofs.ShownCells.{line-shown, printable-shown}
use Rattle.basinmug_input.proofs.parts.push_span.Goals as goal

pub returns-then-span : goal.returns-then-span
returns-then-span c =
    let span = c.args.span in
    let field = slice_range c.args.text.now span.from span.to in
    let more = c.in_ok-push_printable.ensures.more ∙ ap (λ (of : List ℕ). with_cell c.args.rows.now (slice_range of span.from span.to)) c.requires.text in
    printable-shown c.args.escapes field c.args.rows.now c.push_printable.new.self (c.requires.printable c.if-span.true) more

pub is_line-requires : goal.is_line-requires
is_line-requires c = λ is. ap are_clear c.range-field.ensures.value ∙ c.requires.clear is

pub line_width-requires : goal.line_width-requires
line_width-requires c = shown-no_controls c.args.escapes c.range-field.result.now c.range-field.utf8 (c.is_line.ensures c.if-is_line.true)

pub push_line-requires-clause-line : goal.push_line-requires-clause-line
push_line-requires-clause-line c =
    let span = c.args.span in
    let same = c.range-field.ensures.value ∙ ap (λ (of : List ℕ). slice_range of span.from span.to) (sym c.requires.text) in
    subst (λ (of : List ℕ). IsSingleLine of c.line_width.result) same c.line_width.ensures

pub returns-then-is_line : goal.returns-then-is_line
returns-then-is_line c =
    let span = c.args.span in
    let field = c.range-field.result.now in
    let same = c.range-field.ensures.value in
    let more = c.in_ok-push_line.ensures.more ∙ ap (λ (of : List ℕ). with_cell c.args.rows.now (slice_range of span.from span.to)) c.requires.text
    ∙ ap (with_cell c.args.rows.now) (sym same) in
    subst (λ (of : List ℕ). HasShown c.args.escapes of c.args.rows.now c.push_line.new.self) same
    (line-shown c.args.escapes field c.args.rows.now c.push_line.new.self c.range-field.utf8 (c.is_line.ensures c.if-is_line.true) more)
