-- How the lines of texts are trimmed and aligned.
use Rattle.std.specs.Prelude.{true, false}
use Rattle.grid_config_values.specs.declared.entity.Entity.{Entity}
use Rattle.grid_config.specs.Looks.{Look}
use Rattle.tabled_steps.specs.Looks.{with_line_alignment, with_trim_horizontal, with_trim_vertical}
use Rattle.tabled_options.specs.declared.formatting.AlignmentStrategy.{AlignmentStrategy}
use Rattle.tabled_options.specs.declared.formatting.AlignmentStrategy.TheVariants.{PerCell, PerLine}
use Rattle.tabled_options.specs.declared.formatting.TrimStrategy.{TrimStrategy}
use Rattle.tabled_options.specs.declared.formatting.TrimStrategy.TheVariants.{Horizontal, Vertical}

-- the look in which the entity's cells are aligned so
abbrev pub with_strategy : AlignmentStrategy → Entity → Look → Look
with_strategy PerCell at look = with_line_alignment at false look
with_strategy PerLine at look = with_line_alignment at true look

-- the look in which this is left out of the entity's cells
abbrev pub with_trim : TrimStrategy → Entity → Look → Look
with_trim Horizontal at look = with_trim_horizontal at true look
with_trim Vertical at look = with_trim_vertical at true look
