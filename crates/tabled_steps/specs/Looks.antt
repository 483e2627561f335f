-- A look with one setting changed.
use Rattle.std.specs.Prelude.{ℕ, Bool, ◌&&◌, if◌then◌else◌, nat_lt}
use Rattle.grid_config_values.specs.declared.alignment.AlignmentHorizontal.{AlignmentHorizontal}
use Rattle.grid_config_values.specs.declared.alignment.AlignmentVertical.{AlignmentVertical}
use Rattle.grid_config_values.specs.declared.borders.Borders.{Borders}
use Rattle.grid_config_values.specs.declared.entity.Entity.{Entity}
use Rattle.grid_config_values.specs.declared.position.Position.{Position}
use Rattle.grid_config_values.specs.declared.sides.Indent.{Indent}
use Rattle.grid_config_values.specs.declared.sides.Sides.{Sides}
use Rattle.grid_config_values.specs.Entities.{covers}
use Rattle.grid_config_values.specs.Order.{same_place}
use Rattle.grid_config_values.specs.declared.spans.extent.Extent.{Extent}
use Rattle.grid_config.specs.Looks.{Look}

-- the value where the entity covers the place, and elsewhere what was there
abbrev pub covering : {T : Type 0} → Entity → T → (Position → T) → Position → T
covering at value old p = if covers at p then value else old p

-- another value at one place
abbrev pub placing : {T : Type 0} → Position → T → (Position → T) → Position → T
placing place value old p = if same_place place p then value else old p

-- what becomes of the value in each cell of a table of `rows` rows and `columns` columns that the entity covers
abbrev pub changing_inside : {T : Type 0} → (T → T) → Entity → ℕ → ℕ → (Position → T) → Position → T
changing_inside change at rows columns old p = if covers at p && (nat_lt p.row rows && nat_lt p.col columns) then change (old p) else old p

-- ---- of the whole table

abbrev pub with_margin : Sides Indent → Look → Look
with_margin value look = record look { margin = value }

abbrev pub with_borders : Borders ℕ → Look → Look
with_borders value look = record look { borders = value }

-- ---- of cells

abbrev pub with_padding : Entity → Sides Indent → Look → Look
with_padding at value look = record look { padding = covering at value look.padding }

abbrev pub with_alignment_horizontal : Entity → AlignmentHorizontal → Look → Look
with_alignment_horizontal at value look = record look { alignment_horizontal = covering at value look.alignment_horizontal }

abbrev pub with_alignment_vertical : Entity → AlignmentVertical → Look → Look
with_alignment_vertical at value look = record look { alignment_vertical = covering at value look.alignment_vertical }

abbrev pub with_line_alignment : Entity → Bool → Look → Look
with_line_alignment at value look = record look { line_alignment = covering at value look.line_alignment }

abbrev pub with_trim_horizontal : Entity → Bool → Look → Look
with_trim_horizontal at value look = record look { trim_horizontal = covering at value look.trim_horizontal }

abbrev pub with_trim_vertical : Entity → Bool → Look → Look
with_trim_vertical at value look = record look { trim_vertical = covering at value look.trim_vertical }

abbrev pub with_justification : Entity → ℕ → Look → Look
with_justification at value look = record look { justification = covering at value look.justification }

-- ---- how many columns, or rows, a cell takes

abbrev pub with_columns : ℕ → Extent → Extent
with_columns n extent = record extent { columns = n }

abbrev pub with_rows : ℕ → Extent → Extent
with_rows n extent = record extent { rows = n }

-- of the cell at one place
abbrev pub with_column_span : Position → ℕ → Look → Look
with_column_span place n look = record look { extent = placing place (with_columns n (look.extent place)) look.extent }

abbrev pub with_row_span : Position → ℕ → Look → Look
with_row_span place n look = record look { extent = placing place (with_rows n (look.extent place)) look.extent }

-- of each cell of a table of `rows` rows and `columns` columns that the entity covers
abbrev pub with_extents : (Extent → Extent) → Entity → ℕ → ℕ → Look → Look
with_extents change at rows columns look = record look { extent = changing_inside change at rows columns look.extent }
