use Rattle.std.proofs.Common.{ap, sym, ◌∙◌}
use Rattle.grid_records_traits.specs.Sources.{texts_of_rows}
use Rattle.grid_records_traits.specs.Laws.Given.{slice_gives}
use Rattle.grid_records_traits.specs.Laws.Giving.{gives_list}
use Rattle.grid_records.proofs.RowsLemmas.Tables.{evened_table}
use Rattle.grid_records.proofs.rows.records.vec_records.RefVecRecordsRecords.iter_rows.Goals as goal

pub returns : goal.returns
returns g c =
    gives_list
    (c.iter_rows.ensures.rows ∙ ap (texts_of_rows g.T.Cell.text) c.as_slice.ensures.value ∙ sym (evened_table g.T.Cell.text c.args.self.now.rows.items c.args.self.now.equally_long))
    (record { can_next = tt; ends = tt; each = slice_gives g.T.Cell.text _ _ _ (λ _. (tt, tt)) (λ s. s.0) (λ cells. cells.0) (λ _ _ became. became.0) c.iter_rows.result })
