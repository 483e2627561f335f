use Rattle.std.proofs.Common.{sym, ◌∙◌}
use Rattle.grid_records_traits.specs.Laws.Given.{vec_gives}
use Rattle.grid_records_traits.specs.Laws.Giving.{gives_list}
use Rattle.grid_records_traits.specs.Laws.Sources.{all_items}
use Rattle.grid_records.proofs.RowsLemmas.Tables.{evened_table}
use Rattle.grid_records.proofs.rows.records.vec_records.VecRecordsRecords.iter_rows.Goals as goal

pub returns : goal.returns
returns g c =
    gives_list (c.iter_rows.ensures.rows ∙ sym (evened_table g.T.Cell.text c.args.self.rows.items c.args.self.equally_long))
    (record { can_next = tt; ends = tt; each = vec_gives g.T.Cell.text _ _ _ (λ _. (tt, tt)) (λ s. s.0) (λ cells. cells.0) (λ row it became. all_items it _ became.0 (became.1 ∙ row.ok.0)) c.iter_rows.result })
