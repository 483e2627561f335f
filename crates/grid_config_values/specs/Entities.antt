-- Which cells an entity covers.
use Rattle.std.specs.Prelude.{ℕ, Bool, true, List, map, ◌&&◌, ◌==◌}
use Rattle.std.specs.List.{filter, flat_map, range_with_len}
use Rattle.grid_config_values.specs.declared.entity.Entity.{Entity}
use Rattle.grid_config_values.specs.declared.entity.Entity.TheVariants.{Global, Column, Row, Cell}
use Rattle.grid_config_values.specs.declared.position.Position.{Position}

abbrev pub covers : Entity → Position → Bool
covers Global p = true
covers (Column col) p = p.col == col
covers (Row row) p = p.row == row
covers (Cell row col) p = p.row == row && p.col == col

-- the positions of a table, by rows and in a row by columns
abbrev pub table_positions : ℕ → ℕ → List Position
table_positions rows cols = flat_map (λ row. map (λ col. record { row = row; col = col }) (range_with_len 0 cols)) (range_with_len 0 rows)

-- those that the entity covers
abbrev pub covered_positions : Entity → ℕ → ℕ → List Position
covered_positions entity rows cols = filter (covers entity) (table_positions rows cols)
