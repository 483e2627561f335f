use Rattle.std.proofs.Common.{◌≡◌, ◌≤◌, ◌<◌, ◌+◌, ◌^◌, ℕ, List, [], length, sum, get_or, arith, ap, ◌∙◌, inl, inr}
use Rattle.std.proofs.lemmas.List.Sums.{get_or-le-sum_by}
use Rattle.tabled_size_priority.specs.LevelRules.Moving.{moved, moved_sum}
use Rattle.tabled_size_priority.specs.LevelRules.Steps.{AreDone, one-of-all}
use Rattle.tabled_size_priority.specs.declared.levels.rule.Rule.{Rule}
use Rattle.tabled_size_priority.proofs.levels.giving.give_each.Goals as goal

-- a column that is not yet reached is as it was, and can grow by what it gets
has-room : (rule : Rule) (number : ℕ) (widths now : List ℕ) (column got : ℕ) → column < length widths
    → AreDone (λ (i : ℕ). i) (λ (i : ℕ). get_or widths i 0) (λ (i : ℕ). get_or widths i 0 + moved rule number (get_or widths i 0) 0) (length widths) column now
    → got ≡ moved rule number (get_or now column 0) 0 → sum widths + moved_sum rule number [] widths < 2 ^ 64 → get_or now column 0 + got < 2 ^ 64
has-room rule number widths now column got inside done moves fits =
    let amount : ℕ → ℕ = λ (i : ℕ). moved rule number (get_or widths i 0) 0 in
    let same : get_or now column 0 ≡ get_or widths column 0 = elim (done column inside) [
      | inl never ↦ absurd (let earlier : column < column = never.0 in omega arith)
      | inr is ↦ is.1
    ] in
    let all_of : got ≡ amount column = moves ∙ ap (λ (w : ℕ). moved rule number w 0) same in
    let le : get_or widths column 0 ≤ sum widths = get_or-le-sum_by (λ (x : ℕ). x) widths column 0 inside in
    let most : amount column ≤ moved_sum rule number [] widths = one-of-all amount widths column inside in
    omega arith

pub overflow_cast-widths : goal.overflow_cast-widths
overflow_cast-widths c =
    let room = has-room c.args.rule c.args.number c.args.widths.now c.loop-column.widths c.loop-column.column c.moved-amount.result c.loop-column-test.true c.loop-column.invariant c.moved-amount.ensures c.requires in
    omega (arith, room)

pub overflow_add-widths : goal.overflow_add-widths
overflow_add-widths c =
    let room = has-room c.args.rule c.args.number c.args.widths.now c.loop-column.widths c.loop-column.column c.moved-amount.result c.loop-column-test.true c.loop-column.invariant c.moved-amount.ensures c.requires in
    omega (arith, room)
