-- A text has its pieces, so that what is stripped of it is one text.
use Rattle.std.proofs.Common.{ap, ◌∙◌}
use Rattle.std.specs.Str.{trim}
use Rattle.ansi_scan.proofs.Existence.{ArePiecesOf-pieces}
use Rattle.basinmug_columns.specs.Numbers.Columns.{content_kind}
use Rattle.basinmug_columns.proofs.numbers.columns.shown_content.Goals as goal

pub returns : goal.returns
returns c =
    let stripped = c.in_ok-stripped.ensures.strips _ (ArePiecesOf-pieces c.args.text.now) in
    c.kind_of-kind.ensures ∙ ap content_kind (c.trim.ensures.trim ∙ ap trim (c.as_str.ensures.value ∙ stripped))
