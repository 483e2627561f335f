-- The text is its only line where that is the text, or where it is one line without ESC.
use Rattle.std.proofs.Common.{◌≡◌, ◌∙◌, [], List, ap, subst, sym, ℕ}
use Rattle.std.proofs.lemmas.Bool.{not-true}
use Rattle.std.specs.Prelude.{slice_index_or}
use Rattle.std.specs.Cmp.{unsigned_Decides}
use Rattle.std.specs.Cmp.Lexicographic.{pointwise_decides}
use Rattle.grid_records.proofs.RowsLemmas.KeptLines.{only_plain}
use Rattle.grid_records_traits.specs.Cells.{IsLineAt}
use Rattle.grid_records_traits.proofs.TextAnswers.{IsLineAt-text_lines, height_of_text}
use Rattle.basinmug_cells.proofs.short_text.is_only_line.Goals as goal

pub returns-then-not-ansi_has_any : goal.returns-then-not-ansi_has_any
returns-then-not-ansi_has_any c = λ yes.
    let text = c.args.text.now in
    let one = c.if-lines-ne1.false in
    let lines = only_plain text c.args.lines (sym c.ansi_has_any.ensures ∙ c.if-not-ansi_has_any.true) (height_of_text text c.args.lines c.requires) one in
    (one, subst (IsLineAt text 0) (ap (λ (of : List (List ℕ)). slice_index_or of 0 []) lines) (IsLineAt-text_lines text 0))

pub returns : goal.returns
returns c = λ yes.
    let text = c.args.text.now in
    let same : c.as_str.result.now ≡ text = (pointwise_decides unsigned_Decides c.as_str.result.now text).0 (sym c.eq.ensures ∙ yes) in
    (c.if-lines-ne1.false, subst (IsLineAt text 0) (sym c.as_str.ensures.value ∙ same) c.in_ok-line.ensures.line)
