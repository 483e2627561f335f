use Rattle.std.proofs.Common.{◌∙◌, ◌+◌, ℕ, ap, subst, sym}
use Rattle.basinmug_bounded.proofs.OfSizes.{is-printed}
use Rattle.basinmug_bounded.specs.CellOutputs.{IsRowsPrinted, IsReadFault, PrintsRead}
use Rattle.basinmug_bounded.specs.Outputs.{sized}
use Rattle.basinmug_bounded.proofs.printing_cells.rows_into.Goals as goal

pub returns : goal.returns
returns c =
    let options = c.args.options.now in
    let rows = c.args.rows.rows in
    let ran = c.rows_bounded-outcome in
    let outcome = c.sized.ensures ∙ ap (λ (most : ℕ). sized ran.result.0 ran.result.1 most) c.min-most.ensures in
    subst (IsRowsPrinted options rows c.args.max_size c.args.out.now ran.new.out) (sym outcome)
    (is-printed (PrintsRead options rows) (IsReadFault options rows) tt c.args.max_size c.args.out.now ran.new.out (c.min-most.result + 1) ran.result.1 (ap (λ (most : ℕ). most + 1) c.min-most.ensures) ran.result.0 ran.ensures)
