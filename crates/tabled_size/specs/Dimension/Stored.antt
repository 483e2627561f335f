-- The sizes that a table keeps.
use Rattle.std.specs.Prelude.{◌≡◌, ◌⊎◌, ℕ, List, [], Option, None, Some, unwrap_or}
use Rattle.grid_config_values.specs.declared.entity.Entity.{Entity}
use Rattle.grid_config_values.specs.declared.entity.Entity.TheVariants.{Global, Column, Row, Cell}
use Rattle.grid_records_estimate.specs.Collecting.{PassesMax}
use Rattle.grid_records_estimate.specs.Kept.{LeastSizes}
use Rattle.tabled_size.specs.Dimension.Sizes.{GivenSizes, Listed}

-- widths and heights, each perhaps not kept
pub record Stored : Type 0 where
  pub widths : Option (List ℕ)
  pub heights : Option (List ℕ)

abbrev pub none_stored : Stored
none_stored = record { widths = None; heights = None }

-- what is not kept counts as an empty list
abbrev pub stored_sizes : Option (List ℕ) → GivenSizes
stored_sizes sizes = Listed (unwrap_or sizes [])

-- what is kept after a change of these cells: of one column no widths, of one row no heights, of any
-- other cells neither
abbrev pub kept_after : Option Entity → Stored → Stored
kept_after None stored = stored
kept_after (Some Global) stored = none_stored
kept_after (Some (Column column)) stored = record stored { widths = None }
kept_after (Some (Row row)) stored = record stored { heights = None }
kept_after (Some (Cell row column)) stored = none_stored

-- what is kept stays, and what is not is completed by these sizes
abbrev pub completed : LeastSizes → Stored → Stored
completed sizes stored = record { widths = Some (unwrap_or stored.widths sizes.widths); heights = Some (unwrap_or stored.heights sizes.heights) }

-- of what is not kept a size passes the greatest `usize`
abbrev pub CompletedPass : LeastSizes → Stored → Type 0
CompletedPass sizes stored = ((stored.widths ≡ None) × PassesMax sizes.widths) ⊎ ((stored.heights ≡ None) × PassesMax sizes.heights)
