use Rattle.std.proofs.Common.{[], ◌∷◌, ◌++◌, ◌+◌, ◌≡◌, true, sym, ◌∙◌}
use Rattle.std.specs.List.{flat_map}
use Rattle.grid_records_estimate.specs.Collecting.{HasCollected}
use Rattle.grid_records_estimate.specs.CollectedNeeds.{height_needs, width_needs}
use Rattle.grid_records_estimate.specs.Sizing.{is_visible}
use Rattle.grid_records_estimate.specs.declared.need.Need.{Need}
use Rattle.grid_records_estimate.proofs.Meets.{OnOk-implies}
use Rattle.grid_records_estimate.proofs.OneCellRead.{HasRead-added, asks-height, asks-width}
use Rattle.grid_records_estimate.proofs.collected.collect_cell.Goals as goal

pub returns : goal.returns
returns g c = λ before h.
    let sizing = g.S.Sizing.sizing c.args.cfg.now in
    let pos = c.args.pos in
    let text = g.C.Cell.text c.args.cell.now in
    let on : is_visible sizing.spans pos ≡ true = sym c.is_visible.ensures ∙ c.if-not-is_visible.false in
    let width : Need = record { length = c.columns.result; first = pos.col; cross_track = pos.row; size = c.dimension-lines.result.1 + c.across.result } in
    let height : Need = record { length = c.rows.result; first = pos.row; cross_track = pos.col; size = c.dimension-lines.result.0 + c.along.result } in
    let wide = asks-width sizing pos text c.columns.result c.dimension-lines.result.1 c.across.result on c.columns.ensures.value c.dimension-lines.ensures.width c.across.ensures.sum in
    let high = asks-height sizing pos text c.rows.result c.dimension-lines.result.0 c.along.result on c.rows.ensures.value c.dimension-lines.ensures.lines c.along.ensures.sum in
    OnOk-implies c.add-2.result
    (λ (second : HasCollected c.add-2.new.self (flat_map (height_needs sizing) before ++ height ∷ [])).
    HasRead-added sizing c.add.new.self c.add-2.new.self before (pos, text) width height wide high
    (c.in_ok-add.ensures.ok (flat_map (width_needs sizing) before) h.widths_are) second)
    (c.add-2.ensures.ok (flat_map (height_needs sizing) before) h.heights_are)
