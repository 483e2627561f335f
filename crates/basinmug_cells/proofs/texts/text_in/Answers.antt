-- The text of the cell, or none.
use Rattle.std.proofs.Common.{◌≡◌, ◌∙◌, List, Some, ap, string_bytes, subst, sym, ℕ}
use Rattle.std.specs.Prelude.{IfOk}
use Rattle.basinmug_cells.proofs.Views.{none-at, some-at}
use Rattle.basinmug_cells.proofs.texts.text_in.Goals as goal

pub returns-in-Some : goal.returns-in-Some
returns-in-Some g c =
    let is = some-at (g.R.CellRow.texts c.args.row) c.args.column c.text.result.now (sym c.in-Some.ensures ∙ ap (λ (text : List ℕ). Some text) (sym c.text.ensures)) in
    subst (λ (bytes : List ℕ). IfOk c.from_str.result (λ text. string_bytes text ≡ bytes)) (sym is) c.from_str.ensures.ok

pub returns-in-None : goal.returns-in-None
returns-in-None g c = c.new.ensures.bytes ∙ sym (none-at (g.R.CellRow.texts c.args.row) c.args.column (sym c.in-None.ensures))
