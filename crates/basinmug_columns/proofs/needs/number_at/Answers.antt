use Rattle.std.proofs.Common.{◌≡◌, sym, subst, List, ℕ, []}
use Rattle.std.specs.Prelude.{IfOk}
use Rattle.grid_records_measure.specs.TextLines.{text_width}
use Rattle.basinmug_columns.specs.Needs.{unpadded}
use Rattle.basinmug_columns.proofs.Cells.{get_or-none}
use Rattle.basinmug_columns.proofs.needs.number_at.Goals as goal

pub returns-in-None : goal.returns-in-None
returns-in-None g c =
    subst (λ (text : List ℕ). IfOk c.unpadded_width-in-None.result (λ width. width ≡ text_width (unpadded text))) (sym (get_or-none (g.W.CellRow.texts c.args.row) c.args.column [] c.in-None.ensures)) c.unpadded_width-in-None.ensures
