-- The settings of a table of boxes whose cells are all alike.
use Rattle.std.specs.Prelude.{ℕ, List, None, false}
use Rattle.grid_config_values.specs.declared.alignment.AlignmentVertical.{AlignmentVertical}
use Rattle.grid_config_values.specs.declared.alignment.AlignmentVertical.TheVariants.{Top}
use Rattle.grid_config_values.specs.declared.formatting.Formatting.{Formatting}
use Rattle.grid_config.specs.Compact.{Compact, compact_of}
use Rattle.grid_config.specs.Looks.{Look, compact_look}
use Rattle.tabled_size.specs.Dimension.Stored.{Stored}
use Rattle.tabled_steps.specs.States.{State, state_with}
use Rattle.tabled_options.specs.declared.multiline.config.CompactMultilineConfig.{CompactMultilineConfig}

-- the settings of a compact table, where texts are between top and bottom, and how their lines are laid out
pub record Multiline : Type 0 where
  pub compact : Compact
  pub alignment_vertical : AlignmentVertical
  pub formatting : Formatting

-- what a `CompactMultilineConfig` says
abbrev pub multiline_of : CompactMultilineConfig → Multiline
multiline_of config = record {
  compact = compact_of config.compact;
  alignment_vertical = config.alignment_vertical;
  formatting = config.formatting;
}

-- text at the top, no trim, each text aligned as a block
abbrev pub over : Compact → Multiline
over compact = record {
  compact = compact;
  alignment_vertical = Top;
  formatting = record { horizontal_trim = false; vertical_trim = false; allow_lines_alignment = false };
}

-- with a change of the settings of a compact table
abbrev pub with_compact : (Compact → Compact) → Multiline → Multiline
with_compact change settings = record settings { compact = change settings.compact }

-- the look of such a table: in every cell what a compact table has, and these two settings
abbrev pub multiline_look : Multiline → Look
multiline_look settings = record (compact_look settings.compact) {
  alignment_vertical = λ _. settings.alignment_vertical;
  line_alignment = λ _. settings.formatting.allow_lines_alignment;
  trim_horizontal = λ _. settings.formatting.horizontal_trim;
  trim_vertical = λ _. settings.formatting.vertical_trim;
}

-- a table of boxes by its settings: no cell has a colour
abbrev pub multiline_state : List (List (List ℕ)) → Multiline → Stored → State
multiline_state rows settings sizes = state_with rows (multiline_look settings) (λ _. None) sizes
