use Rattle.std.proofs.Common.{◌∙◌, ap}
use Rattle.grid_records_traits.specs.Rows.{evened}
use Rattle.grid_records.proofs.RowsLemmas.Peeks.{all_rows}
use Rattle.grid_records.proofs.rows.records.peeked_records.PeekedRecordsIntoRecords.iter_rows.Goals as goal

pub returns-clause-rows : goal.returns-clause-rows
returns-clause-rows g c =
    let rows = g.R.RecordTexts.rows c.args.self.records.now in
    all_rows rows c.count_columns.result c.count_rows.result c.count_rows.ensures ∙ ap (λ n. evened n rows) c.count_columns.ensures
