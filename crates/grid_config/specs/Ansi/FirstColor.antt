-- The colour that a text begins with.
use Rattle.std.specs.Prelude.{Option, None, Some, List, [], ◌∷◌}
use Rattle.ansi_scan.specs.StartsAndEnds.{start_bytes, end_bytes}
use Rattle.ansi_str_search.specs.Text.Blocks.{Block}
use Rattle.grid_config.specs.Ansi.Colors.{Color}

-- the start and the end of the first block's style
abbrev pub first_color : List Block → Option Color
first_color [] = None
first_color (block ∷ blocks) = Some (record { prefix = start_bytes block.style; suffix = end_bytes block.style })
