use Rattle.std.proofs.Common.{rules, false, refl, sym}
use Rattle.std.specs.declared.alloc.AllocError.{AllocError}
use Rattle.grid_records_traits.specs.Laws.Giving.{gives_list}
use Rattle.grid_records.specs.RecordRows.Laws.Empty.{each_empty_row, each_empty_text}
use Rattle.grid_records.proofs.RowsLemmas.Tables.{evened_empty}
use Rattle.grid_records.proofs.rows.records.empty.EmptyRecordsRecords.iter_rows.Goals as goal

pub returns : goal.returns
returns c =
    gives_list (sym (evened_empty c.args.self.rows c.args.self.columns))
    (record {
      can_next = search rules;
      ends = search rules;
      each = each_empty_row _ c.args.self.columns c.args.self.rows
          (λ cells is. record { can_next = search rules; ends = search rules; each = each_empty_text AllocError false c.args.self.columns cells is })
          _ refl refl;
    })
