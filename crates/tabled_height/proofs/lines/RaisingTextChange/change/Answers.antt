use Rattle.std.proofs.Common.{◌≡◌, ◌-◌, ◌∙◌, ◌++◌, ℕ, List, ap, arith, replicate}
use Rattle.grid_records_measure.specs.TextLines.{line_feed, text_height}
use Rattle.grid_records_traits.specs.Rows.{text_at}
use Rattle.tabled_height.proofs.Counting.{counts_lines}
use Rattle.tabled_height.proofs.Limiting.{is_raised, stays_raised}
use Rattle.tabled_height.proofs.lines.RaisingTextChange.change.Goals as goal

pub returns-then-lines-self : goal.returns-then-lines-self
returns-then-lines-self g c =
    let text = text_at (g.R.RecordTexts.rows c.args.records.now) c.args.pos in
    stays_raised c.args.self.now.height c.args.pos text (omega (arith, counts_lines text c.count_lines-lines.result c.count_lines-lines.ensures, c.if-lines-self.true))

pub returns : goal.returns
returns g c =
    let text = text_at (g.R.RecordTexts.rows c.args.records.now) c.args.pos in
    let height = c.args.self.now.height in
    let counted : c.count_lines-lines.result ≡ text_height text = counts_lines text c.count_lines-lines.result c.count_lines-lines.ensures in
    is_raised height c.args.pos text c.in_ok-new.field-0 (omega (arith, counted, c.if-lines-self.false))
    (c.in_ok-new.ensures ∙ c.in_ok-raised.ensures ∙ ap (λ (t : List ℕ). t ++ replicate (height - c.count_lines-lines.result) line_feed) c.get_text.ensures
    ∙ ap (λ (lines : ℕ). text ++ replicate (height - lines) line_feed) counted)
