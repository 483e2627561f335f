use Rattle.std.proofs.Common.{ap, ◌∙◌}
use Rattle.grid_records_traits.specs.Rows.{with_text}
use Rattle.grid_records_traits.specs.Sources.{texts_of_rows}
use Rattle.grid_records.proofs.RowsLemmas.Tables.{set_columns, set_text}
use Rattle.grid_records.proofs.rows.records.vec_records.VecRecordsRecordsMut.set.Goals as goal

pub returns-clause-text : goal.returns-clause-text
returns-clause-text g c =
    set_text g.T.Cell.text c.args.self.now.rows.items c.args.pos c.index_mut-row.result.now c.from_text.result c.index_mut-row.ensures.value c.requires
    ∙ ap (λ text. with_text (texts_of_rows g.T.Cell.text c.args.self.now.rows.items) c.args.pos text) c.from_text.ensures

pub returns-clause-columns : goal.returns-clause-columns
returns-clause-columns g c = set_columns c.args.self.now.rows.items c.args.pos.row c.args.pos.col c.index_mut-row.result.now c.from_text.result c.index_mut-row.ensures.value
