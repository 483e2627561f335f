-- A text without ESC whose lines all show something is the join of them.
use Rattle.std.proofs.Common.{◌≡◌, ◌∙◌, false, true, ap, sym, List, ℕ, string_bytes}
use Rattle.std.specs.List.{list_all}
use Rattle.ansi_str.specs.StyledText.{has_escape}
use Rattle.grid_records_measure.specs.TextLines.{text_lines}
use Rattle.basinmug_columns.specs.Fitting.Fitting.{is_not_blank}
use Rattle.basinmug_columns.proofs.FittingLemmas.Plain.{kept-text}
use Rattle.basinmug_columns.proofs.fitting.wrapping.without_blank_lines.Goals as goal

pub returns-then-each_line_shows : goal.returns-then-each_line_shows
returns-then-each_line_shows c =
    let text = string_bytes c.args.text in
    let free : has_escape text ≡ false = ap has_escape (sym c.deref.ensures) ∙ sym c.has_escape.ensures ∙ c.if-not-has_escape.true in
    let all : list_all is_not_blank (text_lines text) ≡ true =
    ap (λ (bytes : List ℕ). list_all is_not_blank (text_lines bytes)) (sym c.deref-then-not-has_escape.ensures) ∙ sym c.each_line_shows.ensures ∙ c.if-each_line_shows.true in
    sym (kept-text text free all)
