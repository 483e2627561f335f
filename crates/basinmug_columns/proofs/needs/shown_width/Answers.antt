-- A text has its pieces, so that what is stripped of it is one text; without its blanks it is one text too.
use Rattle.std.proofs.Common.{ap, ◌∙◌, drop, refl}
use Rattle.std.specs.List.{prefix_len}
use Rattle.std.specs.Char.{is_ascii_whitespace}
use Rattle.std.proofs.lemmas.Str.Ascii.{trim_ascii_is}
use Rattle.ansi_scan.proofs.Existence.{ArePiecesOf-pieces}
use Rattle.grid_records_measure.specs.TextLines.{text_width}
use Rattle.basinmug_columns.specs.Needs.{without_blanks}
use Rattle.basinmug_columns.proofs.needs.shown_width.Goals as goal

pub returns : goal.returns
returns c =
    let stripped = c.in_ok-shown.ensures.strips _ (ArePiecesOf-pieces c.args.text.now) in
    let shown = c.as_str.ensures.value ∙ stripped in
    let text = c.as_str.result.now in
    let trimmed = trim_ascii_is text c.trim_ascii.result.now (drop (prefix_len is_ascii_whitespace text) text) refl c.trim_ascii.ensures.value in
    c.get_text_width-width.ensures.text ∙ ap text_width (trimmed ∙ ap without_blanks shown)
