-- A number is read as it is written.
use Rattle.std.proofs.Common.{◌∙◌, ap}
use Rattle.basinmug_columns.specs.Numbers.Scans.{is_unsigned}
use Rattle.basinmug_columns.proofs.NumbersLemmas.Scanned.{number-scanned}
use Rattle.basinmug_columns.proofs.numbers.numbers.is_number.Goals as goal

pub returns : goal.returns
returns c = c.is_unsigned.ensures ∙ (ap is_unsigned c.without_sign.ensures ∙ number-scanned c.args.text.now)
