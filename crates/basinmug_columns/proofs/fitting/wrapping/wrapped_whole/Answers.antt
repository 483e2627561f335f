use Rattle.std.proofs.Common.{ap, List, ℕ}
use Rattle.std.specs.List.{filter}
use Rattle.grid_records_measure.specs.TextLines.{text_lines}
use Rattle.basinmug_columns.specs.Fitting.Fitting.{is_not_blank, joined_lines}
use Rattle.basinmug_columns.proofs.FittingLemmas.Lined.{told}
use Rattle.basinmug_columns.proofs.fitting.wrapping.wrapped_whole.Goals as goal

pub returns : goal.returns
returns c =
    told c.without_blank_lines.result _ _ (ap (λ (text : List ℕ). joined_lines (filter is_not_blank (text_lines text))) c.in_ok-wrapped.ensures.bytes) c.without_blank_lines.ensures
