use Rattle.std.proofs.Common.{◌∙◌, List, ap₂, ℕ}
use Rattle.basinmug_cells.specs.Even.{rows_from}
use Rattle.basinmug_cells.specs.Views.{view_rows}
use Rattle.basinmug_cells.proofs.Even.{all-evened}
use Rattle.basinmug_cells.proofs.even_left.EvenSourceIntoRecords.iter_rows.Goals as goal

pub returns-clause-rows : goal.returns-clause-rows
returns-clause-rows c =
    let left = c.new.result in
    ap₂ (λ (rows : List (List (List ℕ))) (columns : ℕ). rows_from rows columns left.row left.left) c.new.ensures.rows c.new.ensures.columns
    ∙ all-evened (view_rows c.args.self.rows) c.args.self.columns left.row left.left c.new.ensures.row c.new.ensures.left
