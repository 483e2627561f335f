use Rattle.std.proofs.Common.{◌≡◌, inl, inr}
use Rattle.grid_records_estimate.specs.Collecting.{PassesMax}
use Rattle.grid_records_estimate.specs.Sizes.{IsRefusal}
use Rattle.grid_records_estimate.proofs.Meets.{IfErr-told}
use Rattle.grid_records_estimate.proofs.Sizes.{IsRefusal-implies, by_columns, by_rows, first-columns, first-rows}
use Rattle.grid_records_estimate.proofs.dimension.GridDimension.dimension.Goals as goal

pub finish-requires : goal.finish-requires
finish-requires g c = first-columns _ _ _ _ c.in_ok-columns.ensures

pub finish-requires-2 : goal.finish-requires-2
finish-requires-2 g c = first-rows _ _ _ _ c.in_ok-columns.ensures

pub returns-in_err-widths-clause-refused : goal.returns-in_err-widths-clause-refused
returns-in_err-widths-clause-refused g c =
    IfErr-told c.from_residual-in_err-widths.result c.in_err-widths.field-0.0 _ c.from_residual-in_err-widths.ensures.1
    (IsRefusal-implies c.in_err-widths.field-0.0 _ _ inl
    (by_columns _ _ _ _ c.in_ok-columns.ensures (λ sizes. IsRefusal c.in_err-widths.field-0.0 (PassesMax sizes)) _ _ c.borders-borders.ensures c.has_vertical.ensures c.in_err-widths.ensures.refused))

pub returns-in_err-heights-clause-refused : goal.returns-in_err-heights-clause-refused
returns-in_err-heights-clause-refused g c =
    IfErr-told c.from_residual-in_err-heights.result c.in_err-heights.field-0.0 _ c.from_residual-in_err-heights.ensures.1
    (IsRefusal-implies c.in_err-heights.field-0.0 _ _ inr
    (by_rows _ _ _ _ c.in_ok-columns.ensures (λ sizes. IsRefusal c.in_err-heights.field-0.0 (PassesMax sizes)) _ _ c.borders-borders.ensures c.has_horizontal.ensures c.in_err-heights.ensures.refused))

pub returns-clause-widths : goal.returns-clause-widths
returns-clause-widths g c =
    by_columns _ _ _ _ c.in_ok-columns.ensures (λ sizes. c.in_ok-widths.widths.items ≡ sizes) _ _ c.borders-borders.ensures c.has_vertical.ensures c.in_ok-widths.ensures.ok

pub returns-clause-heights : goal.returns-clause-heights
returns-clause-heights g c =
    by_rows _ _ _ _ c.in_ok-columns.ensures (λ sizes. c.in_ok-heights.heights.items ≡ sizes) _ _ c.borders-borders.ensures c.has_horizontal.ensures c.in_ok-heights.ensures.ok
