use Rattle.std.proofs.Common.{◌≡◌}
use Rattle.std.specs.Prelude.{IfErr, IfOk}
use Rattle.grid_records_estimate.specs.Collecting.{PassesMax}
use Rattle.grid_records_estimate.specs.Sizes.{IsRefusal}
use Rattle.grid_records_estimate.proofs.Sizes.{by_columns, first-columns}
use Rattle.grid_records_estimate.proofs.dimension.GridDimension.width.Goals as goal

pub finish-requires : goal.finish-requires
finish-requires g c = first-columns _ _ _ _ c.in_ok-columns.ensures

pub returns-clause-ok : goal.returns-clause-ok
returns-clause-ok g c =
    by_columns _ _ _ _ c.in_ok-columns.ensures (λ sizes. IfOk c.finish.result (λ found. found.items ≡ sizes)) _ _ c.borders.ensures c.has_vertical.ensures c.finish.ensures.ok

pub returns-clause-refused : goal.returns-clause-refused
returns-clause-refused g c =
    by_columns _ _ _ _ c.in_ok-columns.ensures (λ sizes. IfErr c.finish.result (λ fault. IsRefusal fault (PassesMax sizes))) _ _ c.borders.ensures c.has_vertical.ensures c.finish.ensures.refused
