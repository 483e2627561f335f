use Rattle.std.proofs.Common.{◌≡◌, ◌∙◌, ℕ, Result, subst, sym}
use Rattle.std.proofs.lemmas.Result.{err_from_is_err_and}
use Rattle.grid_config_values.specs.declared.fault.Fault.{Fault}
use Rattle.grid_config.specs.Looks.{look_of}
use Rattle.tabled_steps.specs.Outcomes.{GivesState, MayRefuseStep}
use Rattle.tabled_height.specs.Heights.{HeightEstimate, hundredths}
use Rattle.tabled_height.proofs.Giving.{gives_exactly}
use Rattle.tabled_height.proofs.Estimating.{estimated_evened, percent_held, percent_refused}
use Rattle.tabled_height.proofs.height.PercentMeasurementHeight.measure.Goals as goal

pub returns-in_err-heights : goal.returns-in_err-heights
returns-in_err-heights g c =
    let p = err_from_is_err_and c.from_residual.result c.from_residual.ensures.1 in
    let look = look_of c.args.cfg.now in
    let columns = g.R.RecordColumns.columns c.args.records.now in
    let rows = g.R.RecordTexts.rows c.args.records.now in
    let same = estimated_evened look columns _ rows _ c.new.ensures.columns c.new.ensures.rows in
    rw (p.1, p.2)
    (percent_refused c.args.self.now.0 columns rows look c.in_err-heights.field-0.0
    (subst (λ (estimate : Result HeightEstimate Fault). MayRefuseStep c.in_err-heights.field-0.0 (λ outcome. estimate ≡ outcome)) same c.in_err-heights.ensures))

pub returns : goal.returns
returns g c =
    let look = look_of c.args.cfg.now in
    let columns = g.R.RecordColumns.columns c.args.records.now in
    let rows = g.R.RecordTexts.rows c.args.records.now in
    let same = estimated_evened look columns _ rows _ c.new.ensures.columns c.new.ensures.rows in
    let heights = c.in_ok-heights.heights in
    percent_held c.args.self.now.0 columns rows look heights.heights.items heights.lines c.hundredths.result (sym same ∙ c.in_ok-heights.ensures)
    (subst (λ (lines : ℕ). GivesState (λ n. n) c.hundredths.result (λ outcome. hundredths c.args.self.now.0 lines ≡ outcome)) c.lines.ensures (gives_exactly c.hundredths.result (hundredths c.args.self.now.0 c.lines.result) c.hundredths.ensures))
