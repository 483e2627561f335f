use Rattle.std.proofs.Common.{◌+◌, ◌-◌, ◌<◌, ◌≤◌, length, sym, ◌∙◌, arith}
use Rattle.grid_records_traits.proofs.Starts.{get-texts_at, past-texts_at}
use Rattle.grid_records_traits.proofs.records.single_line_row.text_at.Goals as goal

pub returns-then-index-saturating_sub : goal.returns-then-index-saturating_sub
returns-then-index-saturating_sub c =
    let starts = c.args.starts.now in
    let past : length starts - 1 ≤ c.args.index = omega (arith, c.if-index-saturating_sub.true, c.saturating_sub.ensures) in
    sym (past-texts_at c.args.text.now starts c.args.index past)

pub returns : goal.returns
returns c =
    let starts = c.args.starts.now in
    let below : c.args.index + 1 < length starts = omega (arith, c.if-index-saturating_sub.false, c.saturating_sub.ensures) in
    c.range.ensures.value ∙ sym (get-texts_at c.args.text.now starts c.args.index below)
