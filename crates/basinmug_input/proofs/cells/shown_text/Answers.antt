-- Printable ASCII is sound, and is shown as it is.
use Rattle.std.proofs.Common.{rules, ◌≡◌, ◌∙◌, sym}
use Rattle.basinmug_input.specs.Cleaning.{cleaned}
use Rattle.basinmug_input.proofs.Graphic.{printable-cleaned, printable-good}
use Rattle.basinmug_input.proofs.cells.shown_text.Goals as goal

pub returns-then-is_printable : goal.returns-then-is_printable
returns-then-is_printable c =
    let text = c.args.text.now in
    let all = sym c.is_printable.ensures ∙ c.if-is_printable.true in
    let good = printable-good c.args.escapes text all in
    let same : cleaned c.args.escapes text ≡ text = printable-cleaned c.args.escapes text all in
    search (rules, good, same)
