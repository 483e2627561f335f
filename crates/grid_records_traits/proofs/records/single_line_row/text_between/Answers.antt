use Rattle.std.proofs.Common.{◌∙◌, sym}
use Rattle.grid_records_traits.proofs.Starts.{get-texts_at}
use Rattle.grid_records_traits.proofs.records.single_line_row.text_between.Goals as goal

pub returns : goal.returns
returns c = c.range.ensures.value ∙ sym (get-texts_at c.args.text.now c.args.starts.now c.args.index c.requires.below)
