use Rattle.std.proofs.Common.{◌∙◌, List, ap, ap₂, length, ℕ}
use Rattle.grid_records_traits.specs.Laws.Giving.{each_cell, each_row, gives_list}
use Rattle.basinmug_cells.specs.Even.{rows_from, texts_from}
use Rattle.basinmug_cells.specs.Fields.{field_text}
use Rattle.basinmug_cells.specs.Views.{row_texts, view_rows}
use Rattle.basinmug_cells.proofs.Even.{all-filled}
use Rattle.basinmug_cells.proofs.even_rows.RefEvenRowsRecords.iter_rows.Goals as goal

pub returns : goal.returns
returns c =
    let even = c.args.self.now in
    let left = c.new.result in
    let rows = c.new.ensures.rows ∙ c.view.ensures in
    gives_list
    (ap₂ (λ (of : List (List (List ℕ))) (columns : ℕ). rows_from of columns left.row left.left) rows c.new.ensures.columns
    ∙ all-filled even.rows.rows even.columns left.row left.left even.longest c.new.ensures.row (c.new.ensures.left ∙ ap (λ (of : List (List (List ℕ))). length of) c.view.ensures))
    (record {
      can_next = tt;
      ends = tt;
      each = each_row (λ s. s.columns) (λ s. s.left) (λ cells. texts_from (row_texts cells.row) cells.column cells.left) (λ s. rows_from (view_rows s.rows) s.columns s.row s.left) _
          (λ cells. record { can_next = tt; ends = tt; each = each_cell _ field_text (λ cells. cells.left) (λ cells. texts_from (row_texts cells.row) cells.column cells.left) cells }) left;
    })
