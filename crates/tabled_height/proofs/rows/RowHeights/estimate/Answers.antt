use Rattle.std.proofs.Common.{◌∙◌, ◌^◌, ◌≤◌, ℕ, arith, subst}
use Rattle.std.proofs.lemmas.Result.{err_from_is_err_and}
use Rattle.tabled_height.proofs.Estimating.{estimate_held, estimate_refused, lines_total, total_refused}
use Rattle.tabled_height.proofs.rows.RowHeights.estimate.Goals as goal

pub returns-in_err-heights : goal.returns-in_err-heights
returns-in_err-heights g c =
    let p = err_from_is_err_and c.from_residual.result c.from_residual.ensures.1 in
    rw (p.1, p.2) (estimate_refused c.args.cfg.now (g.R.RecordColumns.columns c.args.records) (g.R.RecordTexts.rows c.args.records) c.in_err-heights.field-0.0 c.in_err-heights.ensures.refused)

pub returns-in_err-lines : goal.returns-in_err-lines
returns-in_err-lines g c =
    let p = err_from_is_err_and c.from_residual-in_err-lines.result c.from_residual-in_err-lines.ensures.1 in
    let heights = c.in_ok-heights.heights in
    let all = lines_total c.args.cfg.now heights.items c.deref.result.now c.count_horizontal-boundaries.result c.len.result c.get_margin-margin.result.now
    c.deref.ensures.value (c.len.ensures ∙ heights.ok.0) c.count_horizontal-boundaries.ensures c.get_margin-margin.ensures in
    rw (p.1, p.2)
    (total_refused c.args.cfg.now (g.R.RecordColumns.columns c.args.records) (g.R.RecordTexts.rows c.args.records) heights.items c.in_ok-heights.ensures.ok c.in_err-lines.field-0.0
    c.in_err-lines.ensures.refused.0 (subst (λ (n : ℕ). 2 ^ 64 ≤ n) all c.in_err-lines.ensures.refused.1))

pub returns : goal.returns
returns g c =
    let heights = c.in_ok-heights.heights in
    let all = lines_total c.args.cfg.now heights.items c.deref.result.now c.count_horizontal-boundaries.result c.len.result c.get_margin-margin.result.now
    c.deref.ensures.value (c.len.ensures ∙ heights.ok.0) c.count_horizontal-boundaries.ensures c.get_margin-margin.ensures in
    estimate_held c.args.cfg.now (g.R.RecordColumns.columns c.args.records) (g.R.RecordTexts.rows c.args.records) heights.items c.in_ok-heights.ensures.ok
    c.in_ok-lines.lines (c.in_ok-lines.ensures.ok ∙ all) (omega arith)
