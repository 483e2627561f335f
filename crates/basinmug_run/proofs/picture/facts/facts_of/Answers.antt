-- What each column needs, by the rows.
use Rattle.std.proofs.Common.{◌∙◌}
use Rattle.basinmug_cells.specs.Views.{row_texts, view_rows}
use Rattle.basinmug_run.proofs.PictureLemmas.Tables.{needs-are}
use Rattle.basinmug_run.proofs.picture.facts.facts_of.Goals as goal

pub returns : goal.returns
returns c = record {
  numeric = c.in_ok-numeric.ensures;
  needs =
      needs-are c.args.header (view_rows c.args.rows) (row_texts c.header_of-names.result) (view_rows c.records_of-records.result) c.as_slice-numbers.result.now c.in_ok-needs.needs.items
      c.in_ok-needs.ensures c.header_of-names.ensures c.records_of-records.ensures (c.as_slice-numbers.ensures.value ∙ c.in_ok-numeric.ensures);
}
