-- A text that is its only line.
use Rattle.std.proofs.Common.{◌∙◌, sym}
use Rattle.basinmug_columns.specs.Fitting.Fitting.{cut_line}
use Rattle.basinmug_columns.proofs.FittingLemmas.Lined.{told}
use Rattle.basinmug_columns.proofs.FittingLemmas.Plain.{plain-becomes}
use Rattle.basinmug_columns.proofs.fitting.cutting.cut_lines.Goals as goal

pub returns-then-is_plain_line : goal.returns-then-is_plain_line
returns-then-is_plain_line c =
    told c.cut_line.result _ _ (plain-becomes (cut_line c.args.room) c.args.text.now (sym c.is_plain_line.ensures ∙ c.if-is_plain_line.true)) c.cut_line.ensures
