-- The line is the text, or it is kept.
use Rattle.std.proofs.Common.{◌≡◌, ◌∙◌, ◌∷◌, [], ap, map, string_bytes, subst, sym}
use Rattle.std.specs.Cmp.{unsigned_Decides}
use Rattle.std.specs.Cmp.Lexicographic.{pointwise_decides}
use Rattle.grid_records_measure.specs.TextLines.{text_lines}
use Rattle.grid_records.specs.RecordRows.Measured.{AreLinesKept}
use Rattle.grid_records.specs.declared.rows.records.vec_records.text.kept_lines.KeptLines.TheVariants.{Texts}
use Rattle.grid_records_traits.proofs.TextAnswers.{line_of_text}
use Rattle.grid_records.proofs.RowsLemmas.KeptLines.{only_line}
use Rattle.grid_records.proofs.rows.records.vec_records.text.kept_lines.keep_only_line.Goals as goal

pub returns-then-eq : goal.returns-then-eq
returns-then-eq c =
    let text = c.args.text.now in
    let same : c.as_str.result.now ≡ text = (pointwise_decides unsigned_Decides c.as_str.result.now text).0 (sym c.eq.ensures ∙ c.if-eq.true) in
    only_line text text c.requires (sym same ∙ c.as_str.ensures.value ∙ line_of_text text _ 0 c.in_ok-line.ensures.line)

pub returns : goal.returns
returns c =
    let text = c.args.text.now in
    let line = string_bytes c.in_ok-into_owned.field-0 in
    let all : text_lines text ≡ line ∷ [] = only_line text line c.requires (c.in_ok-into_owned.ensures.ok ∙ line_of_text text _ 0 c.in_ok-line.ensures.line) in
    let kept : AreLinesKept text (Texts c.in_ok-lines.lines) = ap (map string_bytes) c.in_ok-lines.ensures.items ∙ sym all in
    subst (AreLinesKept text) (sym c.in_ok-new.ensures.ok) kept
