-- The three tests hold, so that the first line is the text, there is no other, and it takes the columns.
use Rattle.std.proofs.Common.{◌≡◌, subst, sym, arith, ◌∙◌}
use Rattle.std.specs.Cmp.Lexicographic.{same_text}
use Rattle.std.proofs.lemmas.Bool.Decides.{nat_tests}
use Rattle.grid_records_traits.specs.Cells.{HasLineCount, HasWidth, IsLineAt}
use Rattle.grid_tests.proofs.tests.single_lines.is_plain.Goals as goal
use Rattle.grid_tests.proofs.tests.single_lines.is_plain.Goals.{then-whole, else-whole, then-count_lines-eq1, else-count_lines-eq1}

pub returns : goal.returns
returns c = λ is.
    let text = c.args.text.now in
    elim c.if-count_lines-eq1.branch [
      | then-count_lines-eq1 w ↦ elim c.if-whole.branch [
        | then-whole v ↦
            let count : v.count_lines.result ≡ 1 = grind (arith, nat_tests, v.value-is, w.if-count_lines-eq1) in
            let wide : w.width.result ≡ c.args.width = grind (arith, nat_tests, w.result-is, is) in
            let same : c.deref.result.now ≡ text = same_text c.deref.result.now text (sym v.if-whole.true ∙ c.eq-whole.ensures) in
            let line : IsLineAt text 0 text = subst (IsLineAt text 0) (sym c.deref.ensures.value ∙ same) c.in_ok-line.ensures.line in
            (subst (HasLineCount text) count v.count_lines.ensures, subst (HasWidth text) wide w.width.ensures, line)
        | else-whole v ↦ absurd (grind (arith, v.value-is, w.if-count_lines-eq1))
      ]
      | else-count_lines-eq1 w ↦ absurd (grind (arith, w.result-is, is))
    ]
