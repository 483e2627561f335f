-- A text without control characters is one line.
use Rattle.std.proofs.Common.{subst, sym}
use Rattle.grid_records_traits.specs.SingleLines.{IsSingleLine}
use Rattle.basinmug_input.proofs.Shown.{one_line-measured}
use Rattle.basinmug_input.proofs.single_line.line_width.Goals as goal

pub returns : goal.returns
returns c =
    let text = c.args.text.now in
    subst (IsSingleLine text) (sym c.columns_of.ensures) (one_line-measured text c.utf8.text c.requires)
