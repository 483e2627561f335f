-- What options are made of, and what they make of a look.
use Rattle.std.specs.Prelude.{ℕ}
use Rattle.grid_config_values.specs.declared.entity.Entity.{Entity}
use Rattle.grid_config_values.specs.declared.sides.Indent.{Indent}
use Rattle.grid_config_values.specs.declared.sides.Sides.{Sides}
use Rattle.grid_config.specs.Looks.{Look}
use Rattle.tabled_steps.specs.Looks.{with_alignment_horizontal, with_alignment_vertical}
use Rattle.tabled_options.specs.declared.alignment.Alignment.{Alignment}
use Rattle.tabled_options.specs.declared.alignment.Direction.{Direction}
use Rattle.tabled_options.specs.declared.alignment.Direction.TheVariants.{Horizontal, Vertical}
use Rattle.tabled_options.specs.declared.margin.Margin.{Margin}
use Rattle.tabled_options.specs.declared.padding.Padding.{Padding}

-- ---- sides

abbrev pub margin_sides : Margin → Sides Indent
margin_sides margin = margin.indent

abbrev pub padding_sides : Padding → Sides Indent
padding_sides padding = padding.indent

-- these sizes, filled with spaces
abbrev pub spaced_sides : ℕ → ℕ → ℕ → ℕ → Sides Indent
spaced_sides left right top bottom = record {
  left = record { size = left; fill = 0x20 };
  right = record { size = right; fill = 0x20 };
  top = record { size = top; fill = 0x20 };
  bottom = record { size = bottom; fill = 0x20 };
}

-- the same sizes, with these fills
abbrev pub filled_sides : ℕ → ℕ → ℕ → ℕ → Sides Indent → Sides Indent
filled_sides left right top bottom sides = record {
  left = record sides.left { fill = left };
  right = record sides.right { fill = right };
  top = record sides.top { fill = top };
  bottom = record sides.bottom { fill = bottom };
}

-- ---- alignments

abbrev pub with_direction : Direction → Entity → Look → Look
with_direction (Horizontal value) at look = with_alignment_horizontal at value look
with_direction (Vertical value) at look = with_alignment_vertical at value look

-- the look in which the entity's cells have the alignment
abbrev pub with_alignment : Alignment → Entity → Look → Look
with_alignment alignment at look = with_direction alignment.direction at look
