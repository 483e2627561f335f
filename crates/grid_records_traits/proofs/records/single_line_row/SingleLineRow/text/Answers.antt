use Rattle.std.proofs.Common.{arith}
use Rattle.grid_records_traits.proofs.Starts.{length-texts_at}
use Rattle.grid_records_traits.proofs.records.single_line_row.SingleLineRow.text.Goals as goal

pub text_between-requires-clause-below : goal.text_between-requires-clause-below
text_between-requires-clause-below c = omega (arith, c.requires, length-texts_at c.args.self.now.text.now c.args.self.now.starts.now)
