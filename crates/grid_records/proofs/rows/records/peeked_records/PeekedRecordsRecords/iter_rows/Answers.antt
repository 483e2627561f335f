use Rattle.std.proofs.Common.{◌∙◌, sym}
use Rattle.grid_records_traits.specs.Laws.Giving.{each_cell, each_row, gives_list}
use Rattle.grid_records_traits.specs.Rows.{text_at}
use Rattle.grid_records_traits.proofs.EvenedRows.{evened-twice}
use Rattle.grid_records.specs.RecordRows.Peeking.{row_texts_from, rows_from}
use Rattle.grid_records.proofs.rows.records.peeked_records.PeekedRecordsRecords.iter_rows.Goals as goal

pub returns : goal.returns
returns g c =
    let texts = g.R.RecordTexts.rows in
    gives_list
    (c.iter_rows.ensures.rows ∙ sym (evened-twice (texts c.args.self.records.now) (g.R.RecordColumns.columns c.args.self.records.now)))
    (record {
      can_next = tt;
      ends = tt;
      each = each_row (λ s. s.columns) (λ s. s.left) (λ cells. row_texts_from (texts cells.records.now) cells.row cells.column cells.left) (λ s. rows_from (texts s.records.now) s.columns s.row s.left) _
          (λ cells. record { can_next = tt; ends = tt; each = each_cell _ (λ cell. text_at (texts cell.records.now) cell.pos) (λ cells. cells.left) (λ cells. row_texts_from (texts cells.records.now) cells.row cells.column cells.left) cells }) c.iter_rows.result;
    })
