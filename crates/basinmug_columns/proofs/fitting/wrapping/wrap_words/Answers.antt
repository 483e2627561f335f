-- A text that is its only line.
use Rattle.std.proofs.Common.{◌∙◌, sym}
use Rattle.basinmug_columns.specs.Fitting.Fitting.{wrapped_line}
use Rattle.basinmug_columns.proofs.FittingLemmas.Lined.{told}
use Rattle.basinmug_columns.proofs.FittingLemmas.Plain.{plain-becomes, plain-line}
use Rattle.basinmug_columns.proofs.fitting.wrapping.wrap_words.Goals as goal

pub wrapped_whole-requires : goal.wrapped_whole-requires
wrapped_whole-requires c = plain-line c.args.text.now (sym c.is_plain_line.ensures ∙ c.if-is_plain_line.true)

pub returns-then-is_plain_line : goal.returns-then-is_plain_line
returns-then-is_plain_line c =
    told c.wrapped_whole.result _ _ (plain-becomes (wrapped_line c.args.room) c.args.text.now (sym c.is_plain_line.ensures ∙ c.if-is_plain_line.true)) c.wrapped_whole.ensures
