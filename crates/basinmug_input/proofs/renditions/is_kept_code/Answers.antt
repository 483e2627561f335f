-- The ranges are those of the table.
use Rattle.std.proofs.Common.{◌∙◌, arith}
use Rattle.basinmug_input.proofs.Settings.{ranges-table}
use Rattle.basinmug_input.proofs.renditions.is_kept_code.Goals as goal

pub returns : goal.returns
returns c = c.is_in_kept_ranges.ensures ∙ ranges-table c.args.code (omega arith)
