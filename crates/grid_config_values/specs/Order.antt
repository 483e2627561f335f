-- What `cmp` of positions returns: by rows, and in a row by columns.
use Rattle.std.specs.Prelude.{Bool, ◌&&◌, ◌==◌}
use Rattle.std.specs.declared.cmp.Ordering.{Ordering}
use Rattle.grid_config_values.specs.contracts.position.PositionOrd.TheImpl.{ghosts as order}
use Rattle.grid_config_values.specs.declared.position.Position.{Position}

abbrev pub position_cmp : Position → Position → Ordering
position_cmp a b = order.cmp a b

-- the same row and the same column
abbrev pub same_place : Position → Position → Bool
same_place a b = a.row == b.row && a.col == b.col
