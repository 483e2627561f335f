-- Texts of one line.
use Rattle.std.proofs.Common.{◌≡◌, ◌∙◌, ℕ, ◌<◌, true, List, [], ◌∷◌, ap, arith, get_or, length, refl, subst, sym}
use Rattle.std.specs.Prelude.{slice_index_or}
use Rattle.std.proofs.lemmas.List.{get_or_past}
use Rattle.grid_records_measure.specs.Measures.{are_printable}
use Rattle.grid_records_measure.proofs.LinesAndBlocks.{length-lines}
use Rattle.grid_records_traits.specs.Cells.{HasLineCount, IsLineAt}
use Rattle.grid_records_traits.specs.SingleLines.{IsSingleLine}
use Rattle.grid_records_traits.proofs.TextAnswers.{HasLineCount-text_lines, IsLineAt-text_lines}
use Rattle.grid_records.proofs.RowsLemmas.PlainText.{printable-lines, printable-width}

-- printable ASCII is its only line, and each byte takes a column
pub printable-single : (text : List ℕ) → are_printable text ≡ true → IsSingleLine text (length text)
printable-single text all =
    let lines = printable-lines text all in (
      subst (HasLineCount text) (ap length lines) (HasLineCount-text_lines text),
      printable-width text all,
      subst (IsLineAt text 0) (ap (λ (of : List (List ℕ)). slice_index_or of 0 []) lines) (IsLineAt-text_lines text 0),
    )

one_element : (lines : List (List ℕ)) → length lines ≡ 1 → lines ≡ get_or lines 0 [] ∷ []
one_element [] is = absurd (omega (arith, is))
one_element (line ∷ []) is = refl
one_element (line ∷ next ∷ lines) is = absurd (omega (arith, is))

-- such a text has no other line
pub no-line : (text : List ℕ) (width index : ℕ) → 0 < index → IsSingleLine text width → IsLineAt text index []
no-line text width index behind single = λ pieces lines of_text are.
    let only = one_element lines (length-lines pieces lines are ∙ sym (single.0 pieces of_text)) in
    sym (ap (λ (found : List (List ℕ)). get_or found index []) only ∙ get_or_past (get_or lines 0 [] ∷ []) index [] (omega (arith, behind)))

pub first-line : (text : List ℕ) (width index : ℕ) → index ≡ 0 → IsSingleLine text width → IsLineAt text index text
first-line text width index first single = subst (λ k. IsLineAt text k text) (sym first) single.2
