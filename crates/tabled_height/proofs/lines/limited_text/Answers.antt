use Rattle.std.proofs.Common.{List, ℕ, ap, arith, ◌∙◌}
use Rattle.grid_records_traits.specs.Rows.{text_at}
use Rattle.tabled_height.specs.Lines.{first_lines}
use Rattle.tabled_height.proofs.Counting.{counts_lines}
use Rattle.tabled_height.proofs.Limiting.{is_limited, stays_limited}
use Rattle.tabled_height.proofs.lines.limited_text.Goals as goal

pub returns-then-count_lines-height : goal.returns-then-count_lines-height
returns-then-count_lines-height g c = λ place.
    let text = text_at (g.R.RecordTexts.rows c.args.records.now) c.args.pos in
    stays_limited c.args.height place text (omega (arith, counts_lines text c.count_lines.result c.count_lines.ensures, c.if-count_lines-height.true))

pub returns : goal.returns
returns g c = λ place.
    let text = text_at (g.R.RecordTexts.rows c.args.records.now) c.args.pos in
    is_limited c.args.height place text c.in_ok-new.field-0 (omega (arith, counts_lines text c.count_lines.result c.count_lines.ensures, c.if-count_lines-height.false))
    (c.in_ok-new.ensures ∙ c.in_ok-first.ensures ∙ ap (λ (t : List ℕ). first_lines c.args.height t) c.get_text.ensures)
