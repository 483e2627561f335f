use Rattle.std.proofs.Common.{◌≡◌, ℕ, ◌+◌, ◌-◌, ◌≤◌, true, List, get_or, ap, subst, ◌∙◌, arith}
use Rattle.std.proofs.lemmas.Bool.Decides.{nat_tests}
use Rattle.std.proofs.lemmas.List.{get_or-drop}
use Rattle.columns_run.specs.Ends.{is_cell_text}
use Rattle.columns_run.proofs.rows_without_escape.measured_end.Goals as goal

-- a byte that is no control character is text of a cell
shown-text : (b : ℕ) → 0x20 ≤ b → is_cell_text b ≡ true
shown-text b low = grind (arith, nat_tests, low)

pub returns-then-ends_text-clause-text : goal.returns-then-ends_text-clause-text
returns-then-ends_text-clause-text c = λ k low high.
    let text = c.args.text.now in
    let start = c.args.start in
    let size = k - start in
    let ordered = c.requires.within.0 in
    let place : start + size ≡ k = omega (arith, low, ordered) in
    let there : get_or c.range_from.result.now size 0 ≡ get_or text k 0 =
    ap (λ (found : List ℕ). get_or found size 0) c.range_from.ensures.value ∙ get_or-drop start text size 0 ∙ ap (λ n. get_or text n 0) place in
    shown-text (get_or text k 0) (subst (λ b. 0x20 ≤ b) there (c.measured_front-size.ensures.shown size (omega (arith, low, high, ordered))))
