-- Printable ASCII takes a column a byte.
use Rattle.std.proofs.Common.{sym}
use Rattle.grid_records_measure.proofs.PrintableWidth.{measure-printable}
use Rattle.tabled_size_wrap.proofs.words.word_cost.Goals as goal

pub returns-then-printable : goal.returns-then-printable
returns-then-printable c = sym (measure-printable c.args.word.now (c.requires c.if-printable.true))
