use Rattle.std.proofs.Common.{◌∙◌}
use Rattle.grid_records.specs.RecordRows.Laws.EvenRows.{gives_evened_rows}
use Rattle.grid_records_traits.specs.Laws.Giving.{gives_rows}
use Rattle.grid_records.proofs.rows.records.iter_records.RefIterRecordsRecords.iter_rows.Goals as goal

pub returns : goal.returns
returns g c =
    gives_rows _ _ _ _ (c.iter_rows.ensures.refuses ∙ c.new.ensures.refuses) (c.iter_rows.ensures.rows ∙ c.new.ensures.rows)
    (gives_evened_rows g.I.IterRows.Iterator.next_gives g.I.IterColumns.Iterator.next_gives g.I.Cell.Cell.text
    c.iter_rows.result (g.met.I.IntoRecords.gives c.iter_rows.result.rows))
