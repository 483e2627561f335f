use Rattle.std.proofs.Common.{◌∙◌, sym}
use Rattle.basinmug_bounded.proofs.OfBounded.{has-run, name-stays}
use Rattle.basinmug_bounded.specs.CellOutputs.{IsReadFault, PrintsRead}
use Rattle.basinmug_bounded.proofs.printing_cells.rows_bounded.Goals as goal

pub returns : goal.returns
returns c =
    let options = c.args.options.now in
    let rows = c.args.rows.rows in
    let before = c.new-writer in
    let ran = c.rows_to-outcome in
    let after = c.into_count-bytes.ensures in
    let name = name-stays (PrintsRead options rows) (IsReadFault options rows) before.result ran.new.writer ran.result ran.ensures ∙ before.ensures.name in
    has-run (PrintsRead options rows) (IsReadFault options rows) before.result ran.new.writer ran.result ran.ensures c.args.limit c.args.out.now _ _
    before.ensures.limit before.ensures.memory before.ensures.taken after.count after.limit (c.out-1.given.1.1 (sym name) ∙ after.memory)
